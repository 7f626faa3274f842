-- What the lines of a text say, one line more and all together.
use Rattle.std.specs.Option.{MatchOption}
use Rattle.std.proofs.Common.{◌≡◌, ℕ, ◌+◌, ◌<◌, inl, inr, Bool, true, false, List, [], ◌∷◌, ◌++◌, Result, Ok, Err, cond, drop, filter, map, take, refl, sym, ap, ◌∙◌, subst, append-nil, Option, None, Some}
use Rattle.std.specs.Bool.{MatchBool}
use Rattle.std.specs.List.{AllZip}
use Rattle.std.proofs.lemmas.List.{drop-drop, map-append, take-append-drop}
use Rattle.std.proofs.Math.Seq.{take-add}
use borrow.Author.Count.{below_more}
use Rattle.std.proofs.lemmas.List.Elements.{filter-append}
use Rattle.naga_arena.specs.Memory.{UnlessOutOfMemory}
use Rattle.naga_text.specs.Forms.{IsForm}
use Rattle.naga_text.specs.Text.{AreConsistent, IsFirstUnreadable, IsReadable, IsText, NamesLine, contents_of, has_content}
use Rattle.naga_text.specs.Words.{words_of}
use Rattle.naga_text.specs.steps.LineForms.{line_of}
use Rattle.naga_text.specs.steps.SoFar.{AreAdded, AreRead, CannotBegin, IsAdded, IsReadNext, ReadSoFar, finished}
use Rattle.naga_text.specs.declared.line.Line.{Line as Line_}
use Rattle.naga_text.specs.declared.text.Contents.{Contents}
use Rattle.naga_text.specs.declared.text.ContentsSoFar.{ContentsSoFar}
use Rattle.naga_text.specs.declared.text.TextError.{TextError}
use Rattle.naga_text.specs.declared.text.TextError.TheVariants.{Line, OutOfMemory}
use Rattle.naga_text.proofs.LineLaws.{line_again, line_found}

-- words have one form
form_unique : (ws : List (List ℕ)) (a b : Line_) → IsForm ws a → IsForm ws b → a ≡ b
form_unique ws a b h k = let e = line_again ws a h in let f = line_again ws b k in cc

-- lines have one list of forms
forms_unique : (xs : List (List (List ℕ))) (a b : List Line_) → AllZip IsForm xs a → AllZip IsForm xs b → a ≡ b
forms_unique [] [] [] h k = refl
forms_unique [] [] (b ∷ bs) h k = absurd k
forms_unique [] (a ∷ as') b h k = absurd h
forms_unique (x ∷ xs) [] b h k = absurd h
forms_unique (x ∷ xs) (a ∷ as') [] h k = absurd k
forms_unique (x ∷ xs) (a ∷ as') (b ∷ bs) h k = ap (λ l. l ∷ as') (form_unique x a b h.0 k.0) ∙ ap (λ l. b ∷ l) (forms_unique xs as' bs h.1 k.1)

-- forms of more lines are the forms of the first, one of the next, and more
forms_split : (xs : List (List (List ℕ))) (w : List (List ℕ)) (ys : List (List (List ℕ))) (a b : List Line_) → AllZip IsForm xs a → AllZip IsForm (xs ++ w ∷ [] ++ ys) b
    → (line : Line_) × (after : List Line_) × IsForm w line × (b ≡ a ++ line ∷ [] ++ after)
forms_split [] w ys [] [] h k = absurd k
forms_split [] w ys [] (b ∷ bs) h k = (b, bs, k.0, refl)
forms_split [] w ys (a ∷ as') b h k = absurd h
forms_split (x ∷ xs) w ys [] b h k = absurd h
forms_split (x ∷ xs) w ys (a ∷ as') [] h k = absurd k
forms_split (x ∷ xs) w ys (a ∷ as') (b ∷ bs) h k =
    let p = forms_split xs w ys as' bs h.1 k.1 in
    (p.0, p.1, p.2, ap (λ l. l ∷ bs) (form_unique x b a k.0 h.0) ∙ ap (λ l. a ∷ l) p.3)

-- the forms of one line more are the forms of the lines, and its form
forms_push : (xs : List (List (List ℕ))) (w : List (List ℕ)) (a : List Line_) (line : Line_) → AllZip IsForm xs a → IsForm w line → AllZip IsForm (xs ++ w ∷ []) (a ++ line ∷ [])
forms_push [] w [] line h k = (k, tt)
forms_push [] w (a ∷ as') line h k = absurd h
forms_push (x ∷ xs) w [] line h k = absurd h
forms_push (x ∷ xs) w (a ∷ as') line h k = (h.0, forms_push xs w as' line h.1 k)

-- the words of one line more
words_push : (lines : List (List ℕ)) (line : List ℕ) → has_content line ≡ true → map words_of (filter has_content (lines ++ line ∷ [])) ≡ map words_of (filter has_content lines) ++ words_of line ∷ []
words_push lines line h =
    ap (map words_of) (filter-append has_content lines (line ∷ []) ∙ ap (λ b. filter has_content lines ++ cond b (line ∷ []) []) h)
    ∙ map-append words_of (filter has_content lines) (line ∷ [])

-- the words of lines that go on after one
words_more : (lines : List (List ℕ)) (line : List ℕ) (after : List (List ℕ)) → has_content line ≡ true
    → map words_of (filter has_content (lines ++ line ∷ [] ++ after)) ≡ map words_of (filter has_content lines) ++ words_of line ∷ [] ++ map words_of (filter has_content after)
words_more lines line after h =
    ap (map words_of) (filter-append has_content (lines ++ line ∷ []) after)
    ∙ map-append words_of (filter has_content (lines ++ line ∷ [])) (filter has_content after)
    ∙ ap (λ l. l ++ map words_of (filter has_content after)) (words_push lines line h)

-- a line that has no form begins no text
pub no_form : (read : ContentsSoFar) (line : List ℕ) → has_content line ≡ true → ((said : Line_) → ¬ (IsForm (words_of line) said)) → IsReadNext read line read false
no_form read line h none lines before after readable =
    let text = readable.1 in
    let forms = subst (λ words. AllZip IsForm words text.said) (words_more lines line after h) text.forms in
    let p = forms_split (map words_of (filter has_content lines)) (words_of line) (map words_of (filter has_content after)) before.said text.said before.forms forms in
    none p.0 p.2

-- a line of a form is read as what it says is added
pub form_read : (old new : ContentsSoFar) (line : List ℕ) (said : Line_) (added : Bool) → has_content line ≡ true → IsForm (words_of line) said → IsAdded old said new added → IsReadNext old line new added
form_read old new line said true h form add = λ lines before.
    let now = add before.said before.consistent before.contents_are in record {
      said = before.said ++ said ∷ [];
      forms = subst (λ words. AllZip IsForm words (before.said ++ said ∷ [])) (sym (words_push lines line h)) (forms_push (map words_of (filter has_content lines)) (words_of line) before.said said before.forms form);
      consistent = now.0;
      contents_are = now.1;
    }
form_read old new line said false h form add = λ lines before after readable.
    let text = readable.1 in
    let forms = subst (λ words. AllZip IsForm words text.said) (words_more lines line after h) text.forms in
    let p = forms_split (map words_of (filter has_content lines)) (words_of line) (map words_of (filter has_content after)) before.said text.said before.forms forms in
    let same : text.said ≡ before.said ++ said ∷ [] ++ p.1 = p.3 ∙ ap (λ l. before.said ++ l ∷ [] ++ p.1) (form_unique (words_of line) p.0 said p.2 form) in
    add before.said before.consistent before.contents_are p.1 (subst AreConsistent same text.consistent)

-- a line is read as its words are added
pub words_added : (old new : ContentsSoFar) (line : List ℕ) (added : Bool) → has_content line ≡ true → AreAdded old (words_of line) new added → IsReadNext old line new added
words_added old new line added content h = go (line_of (words_of line)) refl h
  where
    go : (said : Option Line_) → line_of (words_of line) ≡ said → MatchOption said (added ≡ false) (λ l. IsAdded old l new added) → IsReadNext old line new added
    go None e h = subst (λ read. IsReadNext old line new read) (sym h) (no_form old line content (λ said form. let again = line_again (words_of line) said form in absurd (cc)))
    go (Some said) e h = form_read old new line said added content (line_found (words_of line) said e) h

-- lines are a text of the contents that were read of them
pub text_read : (lines : List (List ℕ)) (read : ContentsSoFar) → ReadSoFar lines read → IsText lines (finished read)
text_read lines read t = record { said = t.said; forms = t.forms; consistent = t.consistent; contents_are = ap finished t.contents_are }

-- lines say one contents
pub text_unique : (lines : List (List ℕ)) (a b : Contents) → IsText lines a → IsText lines b → a ≡ b
text_unique lines a b s t = s.contents_are ∙ ap contents_of (forms_unique (map words_of (filter has_content lines)) s.said t.said s.forms t.forms) ∙ sym t.contents_are

-- a result of the reading is what the text says, or names its first unreadable line
pub text_of : (lines : List (List ℕ)) (r : Result Contents TextError) → AreRead lines r → UnlessOutOfMemory (λ e. e ≡ OutOfMemory) r (IsText lines) (λ e. NamesLine e (IsFirstUnreadable lines))
text_of lines (Ok contents) h = h
text_of lines (Err (Line n)) h = inr h.0
text_of lines (Err OutOfMemory) h = inl refl

-- what the text says is what is read, unless memory was refused
pub only_of : (lines : List (List ℕ)) (r : Result Contents TextError) → AreRead lines r → (contents : Contents) → IsText lines contents → UnlessOutOfMemory (λ e. e ≡ OutOfMemory) r (λ read. read ≡ contents) (λ _. ⊥)
only_of lines (Ok read) h contents t = text_unique lines read contents h t
only_of lines (Err (Line n)) h contents t = absurd (h.1 (contents, t))
only_of lines (Err OutOfMemory) h contents t = inl refl

-- lines that can be read, and then a line with which no text begins, are first unreadable there
pub stops_at : (lines : List (List ℕ)) (i : ℕ) (read : ContentsSoFar) → ReadSoFar (take i lines) read → ((k : ℕ) → k < i → IsReadable (take k lines))
    → CannotBegin (take (i + 1) lines) → AreRead lines (Err (Line (i + 1)))
stops_at lines i read so_far before none = (
  record {
    unreadable = subst (λ l. ¬ (IsReadable l)) (append-nil (take (i + 1) lines)) (none []);
    readable_before = below_more (λ k. IsReadable (take k lines)) i before (finished read, text_read (take i lines) read so_far);
  },
  subst (λ l. ¬ (IsReadable l)) (take-append-drop (i + 1) lines) (none (drop (i + 1) lines)),
)

-- the first of the lines that are left is the next line
pub next_line : (lines : List (List ℕ)) (i : ℕ) (line : List ℕ) (rest : List (List ℕ)) → line ∷ rest ≡ drop i lines
    → (take (i + 1) lines ≡ take i lines ++ line ∷ []) × (drop (i + 1) lines ≡ rest)
next_line lines i line rest h = (
  take-add i 1 lines ∙ ap (λ l. take i lines ++ take 1 l) (sym h),
  sym (drop-drop 1 i lines) ∙ ap (drop 1) (sym h),
)

-- the next line was read, or no text begins with it
pub reads_next : (lines : List (List ℕ)) (i : ℕ) (line : List ℕ) (rest : List (List ℕ)) (old new : ContentsSoFar) (read : Bool) → line ∷ rest ≡ drop i lines → IsReadNext old line new read → ReadSoFar (take i lines) old
    → MatchBool read (ReadSoFar (take (i + 1) lines) new) (CannotBegin (take (i + 1) lines))
reads_next lines i line rest old new read h on so_far =
    subst (λ l. MatchBool read (ReadSoFar l new) (CannotBegin l)) (sym (next_line lines i line rest h).0) (on (take i lines) so_far)

-- after the last line, all lines are taken
pub all_taken : (lines : List (List ℕ)) (i : ℕ) (line : List ℕ) → line ∷ [] ≡ drop i lines → take (i + 1) lines ≡ lines
all_taken lines i line h = sym (append-nil (take (i + 1) lines)) ∙ ap (λ l. take (i + 1) lines ++ l) (sym (next_line lines i line [] h).1) ∙ take-append-drop (i + 1) lines
