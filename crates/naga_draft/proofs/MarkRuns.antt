-- Marks that are read one by one, by which blocks are open.
use Rattle.std.proofs.Common.{◌≡◌, ℕ, ◌+◌, ◌<◌, ◌≤◌, zero, suc, Bool, true, false, cond, ◌&&◌, ltb, List, [], ◌∷◌, ◌++◌, append_assoc, length, map, Option, None, Some, refl, sym, ap, ◌∙◌, arith}
use Rattle.std.proofs.lemmas.Bool.{lt-ltb}
use Rattle.std.proofs.lemmas.List.{length-map}
use Rattle.std.proofs.lemmas.Option.{option_and_then_some, same_Some}
use Rattle.std.specs.List.{flat_map}
use Rattle.std.specs.Option.{option_and_then, option_map}
use Rattle.naga_ir.specs.declared.statement.Block.{Block}
use Rattle.naga_ir.specs.declared.statement.Statement.{Statement}
use Rattle.naga_ir.specs.declared.statement.Statement.TheOpen as one
use Rattle.naga_ir.specs.declared.statement.Statement.TheViews.{out-Statement}
use Rattle.naga_ir.specs.declared.statement.SwitchCase.{SwitchCase}
use Rattle.naga_ir.specs.steps.StatementParts.{Form}
use Rattle.naga_draft.proofs.MarkLemmas.{depth-out, depth_of_case-out, depth_of_statement-out, items_of, marks-none, marks_of_block-out, marks_of_case-out, marks_of_statement-out, own_depth, own_marks}
use Rattle.naga_draft.specs.Bodies.{IsBody, Marks, depth, greatest, marks_of_block}
use Rattle.naga_draft.specs.BodyParts.{CanBeginBody, depth_of_case, depth_of_statement, marks_of_case, marks_of_statement}
use Rattle.naga_draft.specs.declared.blocks.Opener.{Opener}
use Rattle.naga_draft.specs.declared.blocks.Opener.TheVariants as opener
use Rattle.naga_draft.specs.declared.blocks.OuterBlock.{OuterBlock}
use Rattle.naga_draft.specs.declared.item.Mark.{Mark}
use Rattle.naga_draft.specs.declared.item.Mark.TheVariants as mark
use Rattle.naga_draft.specs.OpenBlocks.{AreSound, IsRead, Kind, in_accept, in_block, in_body, in_case, in_continuing, in_reject, in_switch, kind_of, kinds, marks_around, opened, opener_depth, opener_marks, step, takes, to_case}

-- the blocks that are open after marks, innermost first, if each mark can stand in its place
abbrev pub run : Marks → List Kind → Option (List Kind)
run [] ks = Some ks
run (m ∷ ms) ks = option_and_then (run ms) (step ks m)

-- marks after marks that can stand
pub run-then : (xs ys : Marks) (ks js : List Kind) → run xs ks ≡ Some js → run (xs ++ ys) ks ≡ run ys js
run-then [] ys ks js h = ap (run ys) (same_Some ks js h)
run-then (x ∷ xs) ys ks js h =
    option_and_then_some (run xs) (step ks x) js h λ is e next.
    ap (option_and_then (run (xs ++ ys))) e ∙ run-then xs ys is js next

-- a block can be opened
pub opened-room : (k : Kind) (ks : List Kind) → takes ks ≡ true → length ks < 127 → opened k ks ≡ Some (k ∷ ks)
opened-room k ks t h = ap (λ b. cond b (Some (k ∷ ks)) None) (ap (λ b. b && ltb (length ks) 127) t ∙ lt-ltb (length ks) 127 h)

-- the marks of a statement or a block leave the open blocks as they are, where statements can stand
abbrev pub StatementRuns : Statement → Type 0
StatementRuns s = (ks : List Kind) → takes ks ≡ true → depth_of_statement s + length ks ≤ 127 → run (marks_of_statement s) ks ≡ Some ks

abbrev pub BlockRuns : Block → Type 0
BlockRuns b = (ks : List Kind) → takes ks ≡ true → depth b + length ks ≤ 127 → run (marks_of_block b) ks ≡ Some ks

statements-run : (n : ℕ) → ((s : Statement) → depth_of_statement s ≤ n → StatementRuns s) → (ss : List Statement) → greatest (map depth_of_statement ss) ≤ n → (ks : List Kind) → takes ks ≡ true → greatest (map depth_of_statement ss) + length ks ≤ 127 → run (flat_map marks_of_statement ss) ks ≡ Some ks
statements-run n below [] h ks t fits = refl
statements-run n below (s ∷ ss) h ks t fits =
    run-then (marks_of_statement s) (flat_map marks_of_statement ss) ks ks (below s (omega arith) ks t (omega arith))
    ∙ statements-run n below ss (omega arith) ks t (omega arith)

block-runs : (n : ℕ) → ((s : Statement) → depth_of_statement s ≤ n → StatementRuns s) → (b : Block) → depth b ≤ n → BlockRuns b
block-runs n below b h ks t fits =
    ap (λ ms. run ms ks) (marks_of_block-out b)
    ∙ statements-run n below (items_of b) (omega (arith, depth-out b)) ks t (omega (arith, depth-out b))

-- a case replaces a switch or the case before
case-runs : (c : SwitchCase) → BlockRuns c.body → (rest : Marks) (k : Kind) (ks : List Kind) → to_case k ≡ Some in_case → depth_of_case c + length ks + 1 ≤ 127 → run (marks_of_case c ++ rest) (k ∷ ks) ≡ run rest (in_case ∷ ks)
case-runs c runs rest k ks is fits =
    ap (λ ms. run (ms ++ rest) (k ∷ ks)) (marks_of_case-out c)
    ∙ ap (λ o. option_and_then (run (marks_of_block c.body ++ rest)) (option_map (λ j. j ∷ ks) o)) is
    ∙ run-then (marks_of_block c.body) rest (in_case ∷ ks) (in_case ∷ ks) (runs (in_case ∷ ks) refl (omega (arith, depth_of_case-out c)))

cases-run : (n : ℕ) → ((b : Block) → depth b < n → BlockRuns b) → (cs : List SwitchCase) → greatest (map depth_of_case cs) < n → (ms : Marks) (ks : List Kind) → greatest (map depth_of_case cs) + length ks + 1 ≤ 127 → run (flat_map marks_of_case cs ++ ms) (in_case ∷ ks) ≡ run ms (in_case ∷ ks)
cases-run n below [] h ms ks fits = refl
cases-run n below (c ∷ cs) h ms ks fits =
    ap (λ xs. run xs (in_case ∷ ks)) (append_assoc (marks_of_case c) (flat_map marks_of_case cs) ms)
    ∙ case-runs c (below c.body (omega (arith, depth_of_case-out c))) (flat_map marks_of_case cs ++ ms) in_case ks refl (omega arith)
    ∙ cases-run n below cs (omega arith) ms ks (omega arith)

-- the cases of a switch, and marks that can stand in a switch with and without cases
switch-runs : (n : ℕ) → ((b : Block) → depth b < n → BlockRuns b) → (cs : List SwitchCase) → greatest (map depth_of_case cs) < n → (ms : Marks) (ks : List Kind) (r : Option (List Kind)) → greatest (map depth_of_case cs) + length ks + 1 ≤ 127 → run ms (in_switch ∷ ks) ≡ r → run ms (in_case ∷ ks) ≡ r → run (flat_map marks_of_case cs ++ ms) (in_switch ∷ ks) ≡ r
switch-runs n below [] h ms ks r fits none some = none
switch-runs n below (c ∷ cs) h ms ks r fits none some =
    ap (λ xs. run xs (in_switch ∷ ks)) (append_assoc (marks_of_case c) (flat_map marks_of_case cs) ms)
    ∙ case-runs c (below c.body (omega (arith, depth_of_case-out c))) (flat_map marks_of_case cs ++ ms) in_switch ks refl (omega arith)
    ∙ cases-run n below cs (omega arith) ms ks (omega arith)
    ∙ some

own_marks-run : (n : ℕ) → ((b : Block) → depth b < n → BlockRuns b) → (x : Form) → own_depth x ≤ n → (ks : List Kind) → takes ks ≡ true → own_depth x + length ks ≤ 127 → run (own_marks x) ks ≡ Some ks
own_marks-run n below (one.Block b) h ks t fits =
    ap (option_and_then (run (marks_of_block b ++ mark.End ∷ []))) (opened-room in_block ks t (omega arith))
    ∙ run-then (marks_of_block b) (mark.End ∷ []) (in_block ∷ ks) (in_block ∷ ks) (below b (omega arith) (in_block ∷ ks) refl (omega arith))
own_marks-run n below (one.If condition accept reject) h ks t fits =
    let last : Marks = marks_of_block reject ++ mark.End ∷ [] in
    ap (option_and_then (run (marks_of_block accept ++ mark.Else ∷ last))) (opened-room in_accept ks t (omega arith))
    ∙ run-then (marks_of_block accept) (mark.Else ∷ last) (in_accept ∷ ks) (in_accept ∷ ks) (below accept (omega arith) (in_accept ∷ ks) refl (omega arith))
    ∙ run-then (marks_of_block reject) (mark.End ∷ []) (in_reject ∷ ks) (in_reject ∷ ks) (below reject (omega arith) (in_reject ∷ ks) refl (omega arith))
own_marks-run n below (one.Switch selector cases) h ks t fits =
    ap (option_and_then (run (flat_map marks_of_case cases.items ++ mark.End ∷ []))) (opened-room in_switch ks t (omega arith))
    ∙ switch-runs n below cases.items (omega arith) (mark.End ∷ []) ks (Some ks) (omega arith) refl refl
own_marks-run n below (one.Loop body continuing break_if) h ks t fits =
    let last : Marks = marks_of_block continuing ++ mark.EndOfLoop break_if ∷ [] in
    ap (option_and_then (run (marks_of_block body ++ mark.Continuing ∷ last))) (opened-room in_body ks t (omega arith))
    ∙ run-then (marks_of_block body) (mark.Continuing ∷ last) (in_body ∷ ks) (in_body ∷ ks) (below body (omega arith) (in_body ∷ ks) refl (omega arith))
    ∙ run-then (marks_of_block continuing) (mark.EndOfLoop break_if ∷ []) (in_continuing ∷ ks) (in_continuing ∷ ks) (below continuing (omega arith) (in_continuing ∷ ks) refl (omega arith))
own_marks-run n below _ h ks t fits = ap (λ b. option_and_then (run []) (cond b (Some ks) None)) t

statement-runs-below : (n : ℕ) → ((b : Block) → depth b < n → BlockRuns b) → (s : Statement) → depth_of_statement s ≤ n → StatementRuns s
statement-runs-below n below s h ks t fits =
    ap (λ ms. run ms ks) (marks_of_statement-out s)
    ∙ own_marks-run n below (out-Statement s) (omega (arith, depth_of_statement-out s)) ks t (omega (arith, depth_of_statement-out s))

statement-runs : (n : ℕ) (s : Statement) → depth_of_statement s ≤ n → StatementRuns s
statement-runs zero s h = statement-runs-below zero (λ b lt. absurd (omega (arith, lt))) s h
statement-runs (suc n) s h = statement-runs-below (suc n) (λ b lt. block-runs n (statement-runs n) b (omega (arith, lt))) s h

-- the marks of a block leave the open blocks as they are, where statements can stand
pub body-runs : (b : Block) → BlockRuns b
body-runs b = block-runs (depth b) (statement-runs (depth b)) b (omega arith)

-- the marks of an opener open its block
opener-runs : (p : Opener) (ks : List Kind) → takes ks ≡ true → opener_depth p + length ks + 1 ≤ 127 → run (opener_marks p) ks ≡ Some (kind_of p ∷ ks)
opener-runs opener.Block ks t fits = ap (option_and_then (run [])) (opened-room in_block ks t (omega arith))
opener-runs (opener.Accept condition) ks t fits = ap (option_and_then (run [])) (opened-room in_accept ks t (omega arith))
opener-runs (opener.Reject condition accept) ks t fits =
    ap (option_and_then (run (marks_of_block accept ++ mark.Else ∷ []))) (opened-room in_accept ks t (omega arith))
    ∙ run-then (marks_of_block accept) (mark.Else ∷ []) (in_accept ∷ ks) (in_accept ∷ ks) (body-runs accept (in_accept ∷ ks) refl (omega arith))
opener-runs (opener.Switch selector) ks t fits = ap (option_and_then (run [])) (opened-room in_switch ks t (omega arith))
opener-runs (opener.Case selector cases head) ks t fits =
    ap (option_and_then (run (flat_map marks_of_case cases.items ++ mark.Case head ∷ []))) (opened-room in_switch ks t (omega arith))
    ∙ switch-runs (suc (greatest (map depth_of_case cases.items))) (λ b _. body-runs b) cases.items (omega arith) (mark.Case head ∷ []) ks (Some (in_case ∷ ks)) (omega arith) refl refl
opener-runs opener.Body ks t fits = ap (option_and_then (run [])) (opened-room in_body ks t (omega arith))
opener-runs (opener.Continuing body) ks t fits =
    ap (option_and_then (run (marks_of_block body ++ mark.Continuing ∷ []))) (opened-room in_body ks t (omega arith))
    ∙ run-then (marks_of_block body) (mark.Continuing ∷ []) (in_body ∷ ks) (in_body ∷ ks) (body-runs body (in_body ∷ ks) refl (omega arith))

-- as many blocks are open as have one in them
pub length-kinds : (outer : List OuterBlock) → length (kinds outer) ≡ length outer
length-kinds outer = length-map outer (λ o. kind_of o.opener)

around-runs : (outer : List OuterBlock) → AreSound outer → run (marks_around outer) [] ≡ Some (kinds outer)
around-runs [] sound = refl
around-runs (o ∷ outer) sound =
    let same : length (kinds outer) ≡ length outer = length-kinds outer in
    run-then (marks_around outer) (marks_of_block o.block ++ opener_marks o.opener) [] (kinds outer) (around-runs outer sound.3)
    ∙ run-then (marks_of_block o.block) (opener_marks o.opener) (kinds outer) (kinds outer) (body-runs o.block (kinds outer) sound.2 (omega (arith, sound.0, same)))
    ∙ opener-runs o.opener (kinds outer) sound.2 (omega (arith, sound.1, same))

inner-runs : (b : Block) (ks : List Kind) (t : Bool) → takes ks ≡ t → depth b + length ks ≤ 127 → (takes ks ≡ false → items_of b ≡ []) → run (marks_of_block b) ks ≡ Some ks
inner-runs b ks true is fits empty = body-runs b ks is fits
inner-runs b ks false is fits empty = ap (λ ms. run ms ks) (marks-none b (empty is))

-- the marks that were read leave open what is open
pub read-runs : (marks : Marks) (outer : List OuterBlock) (block : Block) → IsRead marks outer block → run marks [] ≡ Some (kinds outer)
read-runs marks outer block h =
    let same : length (kinds outer) ≡ length outer = length-kinds outer in
    ap (λ ms. run ms []) h.said
    ∙ run-then (marks_around outer) (marks_of_block block) [] (kinds outer) (around-runs outer h.around)
    ∙ inner-runs block (kinds outer) (takes (kinds outer)) refl (omega (arith, h.shallow, same)) h.empty

-- the marks of a body leave no block open
pub whole-runs : (marks : Marks) (b : Block) → IsBody marks b → run marks [] ≡ Some []
whole-runs marks b h = ap (λ ms. run ms []) h.said ∙ body-runs b [] refl (omega (arith, h.shallow))

-- marks that leave a block open say no body
pub open-refuses : (marks : Marks) (outer : List OuterBlock) (block : Block) → IsRead marks outer block → (b : Block) → IsBody marks b → kinds outer ≡ []
open-refuses marks outer block h b is = same_Some (kinds outer) [] (sym (read-runs marks outer block h) ∙ whole-runs marks b is)

-- no body begins with a mark that can't stand after the marks before
pub step-refuses : (marks : Marks) (outer : List OuterBlock) (block : Block) (m : Mark) → IsRead marks outer block → step (kinds outer) m ≡ None → ¬ (CanBeginBody (marks ++ m ∷ []))
step-refuses marks outer block m h none c =
    let whole : run ((marks ++ m ∷ []) ++ c.0) [] ≡ Some [] = whole-runs _ c.1 c.2 in
    let stops : run ((marks ++ m ∷ []) ++ c.0) [] ≡ None =
    ap (λ ms. run ms []) (append_assoc marks (m ∷ []) c.0)
    ∙ run-then marks (m ∷ c.0) [] (kinds outer) (read-runs marks outer block h)
    ∙ ap (option_and_then (run c.0)) none in
    cc
