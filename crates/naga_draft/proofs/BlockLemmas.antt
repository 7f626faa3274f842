-- What is read after one more mark.
use Rattle.std.proofs.Common.{◌≡◌, ℕ, ◌+◌, ◌<◌, ◌≤◌, max, Bool, true, false, true≢false, ◌&&◌, ltb, ltb-true, List, [], ◌∷◌, ◌++◌, append_assoc, append-nil, length, map, reverse, refl, sym, ap, ◌∙◌, subst, arith, Global, Option, OnOk, Result, Ok, Err}
use Rattle.std.proofs.lemmas.List.{reverse-append}
use Rattle.std.specs.List.{flat_map}
use Rattle.std.specs.Prelude.{Vec}
use Rattle.naga_ir.specs.declared.statement.Block.{Block}
use Rattle.naga_ir.specs.declared.statement.Statement.{Statement}
use Rattle.naga_ir.specs.declared.statement.Statement.TheOpen as one
use Rattle.naga_ir.specs.declared.statement.Statement.TheViews.{out-Statement}
use Rattle.naga_ir.specs.declared.statement.SwitchCase.{SwitchCase}
use Rattle.naga_draft.proofs.MarkLemmas.{case_depth-push, case_marks-push, depth-none, depth-plain, depth-push, depth_of_statement-out, items_of, marks-none, marks-plain, marks-push, marks_of_statement-out, own_depth, own_marks}
use Rattle.naga_draft.proofs.MarkRuns.{length-kinds}
use Rattle.naga_draft.specs.Bodies.{Marks, depth, greatest, marks_of_block}
use Rattle.naga_draft.specs.BodyParts.{HasNoBlocks, depth_of_case, depth_of_statement, head_of, marks_of_case, marks_of_statement}
use Rattle.naga_draft.specs.declared.blocks.OpenBlocks.{OpenBlocks}
use Rattle.naga_draft.specs.declared.blocks.Opener.{Opener}
use Rattle.naga_draft.specs.declared.blocks.Opener.TheVariants as opener
use Rattle.naga_draft.specs.declared.blocks.OuterBlock.{OuterBlock}
use Rattle.naga_draft.specs.declared.item.CaseHead.{CaseHead}
use Rattle.naga_draft.specs.declared.item.Mark.{Mark}
use Rattle.naga_draft.specs.declared.item.Mark.TheVariants as mark
use Rattle.naga_draft.specs.declared.unread.Unread.{Unread}
use Rattle.naga_draft.specs.OpenBlocks.{Adds, AddsCase, AreRead, Closes, IsRead, Opens, TakesBlock, has_room, has_statements, kind_of, kinds, marks_around, opener_depth, opener_marks, outer_of, takes}

-- no marks are read of the empty body
pub read-none : (b : Block) → items_of b ≡ [] → IsRead [] [] b
read-none b h = record {
  said = sym (marks-none b h);
  shallow = omega (arith, depth-none b h);
  empty = λ e. absurd (true≢false e);
  around = tt;
}

-- a statement is added to the innermost block
pub read-push : (marks : Marks) (outer : List OuterBlock) (b more : Block) (s : Statement) (ms : Marks) → IsRead marks outer b → takes (kinds outer) ≡ true → items_of more ≡ items_of b ++ s ∷ [] → marks_of_statement s ≡ ms → depth_of_statement s + length outer ≤ 127 → IsRead (marks ++ ms) outer more
read-push marks outer b more s ms h t items said fits = record {
  said =
      ap (λ xs. xs ++ ms) h.said
      ∙ append_assoc (marks_around outer) (marks_of_block b) ms
      ∙ ap (λ xs. marks_around outer ++ (marks_of_block b ++ xs)) (sym said)
      ∙ ap (λ xs. marks_around outer ++ xs) (sym (marks-push b more s items));
  shallow = omega (arith, h.shallow, depth-push b more s items);
  empty = λ e. absurd (true≢false (sym t ∙ e));
  around = h.around;
}

-- a block is opened in the innermost block
pub read-enter : (marks : Marks) (outer : List OuterBlock) (b inner : Block) (p : Opener) (m : Mark) → IsRead marks outer b → takes (kinds outer) ≡ true → length outer < 127 → items_of inner ≡ [] → opener_marks p ≡ m ∷ [] → opener_depth p ≡ 0 → IsRead (marks ++ m ∷ []) (record { block = b; opener = p } ∷ outer) inner
read-enter marks outer b inner p m h t few items said flat =
    let before : Marks = marks_around outer ++ (marks_of_block b ++ opener_marks p) in
    record {
      said =
          ap (λ xs. xs ++ m ∷ []) h.said
          ∙ append_assoc (marks_around outer) (marks_of_block b) (m ∷ [])
          ∙ ap (λ xs. marks_around outer ++ (marks_of_block b ++ xs)) (sym said)
          ∙ sym (append-nil before)
          ∙ ap (λ xs. before ++ xs) (sym (marks-none inner items));
      shallow = omega (arith, few, depth-none inner items);
      empty = λ _. items;
      around = (h.shallow, omega (arith, few, flat), t, h.around);
    }

-- marks of a block in another, and one more
regroup : (a b p l m : Marks) → ((a ++ (b ++ p)) ++ l) ++ m ≡ a ++ (b ++ (p ++ (l ++ m)))
regroup a b p l m = simp append_assoc

-- the innermost block gives way to another
pub read-swap : (marks : Marks) (outer : List OuterBlock) (b last inner : Block) (p q : Opener) (m : Mark) → IsRead marks (record { block = b; opener = p } ∷ outer) last → items_of inner ≡ [] → opener_marks q ≡ opener_marks p ++ (marks_of_block last ++ m ∷ []) → opener_depth q ≤ max (opener_depth p) (depth last) → IsRead (marks ++ m ∷ []) (record { block = b; opener = q } ∷ outer) inner
read-swap marks outer b last inner p q m h items said fits =
    let before : Marks = marks_around outer ++ (marks_of_block b ++ opener_marks q) in
    record {
      said =
          ap (λ xs. xs ++ m ∷ []) h.said
          ∙ regroup (marks_around outer) (marks_of_block b) (opener_marks p) (marks_of_block last) (m ∷ [])
          ∙ ap (λ xs. marks_around outer ++ (marks_of_block b ++ xs)) (sym said)
          ∙ sym (append-nil before)
          ∙ ap (λ xs. before ++ xs) (sym (marks-none inner items));
      shallow = omega (arith, h.shallow, depth-none inner items);
      empty = λ _. items;
      around = (h.around.0, omega (arith, h.around.1, h.shallow, fits), h.around.2, h.around.3);
    }

-- the innermost block ends, with its statement
pub read-close : (marks : Marks) (outer : List OuterBlock) (b last more : Block) (p : Opener) (ms : Marks) (s : Statement) → IsRead marks (record { block = b; opener = p } ∷ outer) last → Closes ms p last s → items_of more ≡ items_of b ++ s ∷ [] → IsRead (marks ++ ms) outer more
read-close marks outer b last more p ms s h closes items = record {
  said =
      ap (λ xs. xs ++ ms) h.said
      ∙ regroup (marks_around outer) (marks_of_block b) (opener_marks p) (marks_of_block last) ms
      ∙ ap (λ xs. marks_around outer ++ (marks_of_block b ++ xs)) (sym (closes.said h.empty))
      ∙ ap (λ xs. marks_around outer ++ xs) (sym (marks-push b more s items));
  shallow = omega (arith, h.around.0, h.around.1, h.shallow, closes.shallow, depth-push b more s items);
  empty = λ e. absurd (true≢false (sym h.around.2 ∙ e));
  around = h.around.3;
}

-- the last of a list comes first in the reversed one
pub reverse-push : {A : Type 0} (xs : List A) (x : A) → reverse (xs ++ x ∷ []) ≡ x ∷ reverse xs
reverse-push xs x = reverse-append xs (x ∷ [])

-- what is read when the innermost block is taken
pub taken-read : (marks : Marks) (old mid : OpenBlocks) (p : Opener) (inner : Block) → TakesBlock old p inner mid → AreRead marks old → IsRead marks (record { block = mid.block; opener = p } ∷ outer_of mid) inner
taken-read marks old mid p inner h read =
    subst (λ outer. IsRead marks outer inner) (ap reverse h.0 ∙ reverse-push mid.outer.items (record { block = mid.block; opener = p }))
    (subst (λ b. IsRead marks (outer_of old) b) (sym h.1) read)

-- what is read when a block is opened
pub opened-read : (marks : Marks) (old new : OpenBlocks) (p : Opener) → Opens p old new → IsRead marks (record { block = old.block; opener = p } ∷ outer_of old) new.block → AreRead marks new
opened-read marks old new p h read =
    subst (λ outer. IsRead marks outer new.block) (sym (ap reverse h.0 ∙ reverse-push old.outer.items (record { block = old.block; opener = p }))) read

both_true : (a b : Bool) → (a && b) ≡ true → (a ≡ true) × (b ≡ true)
both_true true b h = (refl, h)
both_true false b h = absurd (true≢false (sym h))

-- a statement that has blocks is begun
pub begin-adds : (old new : OpenBlocks) (p : Opener) (m : Mark) → Opens p old new → has_room (kinds (outer_of old)) ≡ true → opener_marks p ≡ m ∷ [] → opener_depth p ≡ 0 → Adds m old new
begin-adds old new p m h room said flat marks read =
    let both : (takes (kinds (outer_of old)) ≡ true) × (ltb (length (kinds (outer_of old))) 127 ≡ true) = both_true _ _ room in
    let few : length (outer_of old) < 127 = omega (arith, ltb-true _ _ both.1, length-kinds (outer_of old)) in
    opened-read (marks ++ m ∷ []) old new p h (read-enter marks (outer_of old) old.block new.block p m read both.0 few h.1 said flat)

-- a block of a statement ends, and the next one is opened
pub swap-adds : (old mid new : OpenBlocks) (p q : Opener) (inner : Block) (m : Mark) → TakesBlock old p inner mid → Opens q mid new → ((has_statements (kind_of p) ≡ false → items_of inner ≡ []) → opener_marks q ≡ opener_marks p ++ (marks_of_block inner ++ m ∷ [])) → opener_depth q ≤ max (opener_depth p) (depth inner) → Adds m old new
swap-adds old mid new p q inner m taken opens said fits marks read =
    let was : IsRead marks (record { block = mid.block; opener = p } ∷ outer_of mid) inner = taken-read marks old mid p inner taken read in
    opened-read (marks ++ m ∷ []) mid new q opens (read-swap marks (outer_of mid) mid.block inner new.block p q m was opens.1 (said was.empty) fits)

-- a statement ends with its last block
pub close-adds : (old mid new : OpenBlocks) (p : Opener) (inner : Block) (m : Mark) (s : Statement) → TakesBlock old p inner mid → Closes (m ∷ []) p inner s → new.outer.items ≡ mid.outer.items → items_of new.block ≡ items_of mid.block ++ s ∷ [] → Adds m old new
close-adds old mid new p inner m s taken closes same items marks read =
    let was : IsRead marks (record { block = mid.block; opener = p } ∷ outer_of mid) inner = taken-read marks old mid p inner taken read in
    subst (λ outer. IsRead (marks ++ m ∷ []) outer new.block) (ap reverse (sym same)) (read-close marks (outer_of mid) mid.block inner new.block p (m ∷ []) s was closes items)

-- a statement without blocks is added
pub push-adds : (old new : OpenBlocks) (s : Statement) → HasNoBlocks s → takes (kinds (outer_of old)) ≡ true → new.outer.items ≡ old.outer.items → items_of new.block ≡ items_of old.block ++ s ∷ [] → Adds (mark.Statement s) old new
push-adds old new s plain t same items marks read =
    let after : IsRead (marks ++ mark.Statement s ∷ []) (outer_of old) new.block =
    read-push marks (outer_of old) old.block new.block s (mark.Statement s ∷ []) read t items (marks-plain s plain) (omega (arith, depth-plain s plain, read.shallow)) in
    subst (λ outer. IsRead (marks ++ mark.Statement s ∷ []) outer new.block) (ap reverse (sym same)) after

-- the marks of one more case, and a mark after it
pub more_cases : (old new : List SwitchCase) (head : CaseHead) (body : Block) (m : Mark) → AddsCase old head body new → flat_map marks_of_case new ++ m ∷ [] ≡ (flat_map marks_of_case old ++ mark.Case head ∷ []) ++ (marks_of_block body ++ m ∷ [])
more_cases old new head body m h = ap (λ xs. xs ++ m ∷ []) h.said ∙ split (flat_map marks_of_case old) (marks_of_block body) (m ∷ [])
  where
    split : (a b c : Marks) → (a ++ mark.Case head ∷ b) ++ c ≡ (a ++ mark.Case head ∷ []) ++ (b ++ c)
    split a b c = simp append_assoc

-- what a block, an `if`, a switch without cases, a switch with a last case and a loop end with
pub closes-block : (b : Block) (s : Statement) → out-Statement s ≡ one.Block b → Closes (mark.End ∷ []) opener.Block b s
closes-block b s is = record {
  said = λ _. marks_of_statement-out s ∙ ap own_marks is;
  shallow = omega (arith, depth_of_statement-out s ∙ ap own_depth is);
}

pub closes-if : (condition : ℕ) (accept reject : Block) (s : Statement) → out-Statement s ≡ one.If condition accept reject → Closes (mark.End ∷ []) (opener.Reject condition accept) reject s
closes-if condition accept reject s is = record {
  said = λ _. marks_of_statement-out s ∙ ap own_marks is ∙ ap (λ xs. mark.If condition ∷ xs) (sym (append_assoc (marks_of_block accept) (mark.Else ∷ []) (marks_of_block reject ++ mark.End ∷ [])));
  shallow = omega (arith, depth_of_statement-out s ∙ ap own_depth is);
}

pub closes-empty_switch : (selector : ℕ) (cases : Vec SwitchCase Global) (inner : Block) (s : Statement) → out-Statement s ≡ one.Switch selector cases → cases.items ≡ [] → Closes (mark.End ∷ []) (opener.Switch selector) inner s
closes-empty_switch selector cases inner s is none = record {
  said = λ empty.
      marks_of_statement-out s
      ∙ ap own_marks is
      ∙ ap (λ cs. mark.Switch selector ∷ (flat_map marks_of_case cs ++ mark.End ∷ [])) none
      ∙ ap (λ xs. mark.Switch selector ∷ (xs ++ mark.End ∷ [])) (sym (marks-none inner (empty refl)));
  shallow = omega (arith, depth_of_statement-out s ∙ ap own_depth is ∙ ap (λ cs. greatest (map depth_of_case cs) + 1) none);
}

pub closes-switch : (selector : ℕ) (old cases : Vec SwitchCase Global) (head : CaseHead) (inner : Block) (s : Statement) → out-Statement s ≡ one.Switch selector cases → AddsCase old.items head inner cases.items → Closes (mark.End ∷ []) (opener.Case selector old head) inner s
closes-switch selector old cases head inner s is adds = record {
  said = λ _. marks_of_statement-out s ∙ ap own_marks is ∙ ap (λ xs. mark.Switch selector ∷ xs) (more_cases old.items cases.items head inner mark.End adds);
  shallow = omega (arith, depth_of_statement-out s ∙ ap own_depth is, adds.shallow);
}

pub closes-loop : (body continuing : Block) (break_if : Option ℕ) (s : Statement) → out-Statement s ≡ one.Loop body continuing break_if → Closes (mark.EndOfLoop break_if ∷ []) (opener.Continuing body) continuing s
closes-loop body continuing break_if s is = record {
  said = λ _. marks_of_statement-out s ∙ ap own_marks is ∙ ap (λ xs. mark.Loop ∷ xs) (sym (append_assoc (marks_of_block body) (mark.Continuing ∷ []) (marks_of_block continuing ++ mark.EndOfLoop break_if ∷ [])));
  shallow = omega (arith, depth_of_statement-out s ∙ ap own_depth is);
}

-- a switch has one more case
pub adds-case : (old new : List SwitchCase) (c : SwitchCase) → new ≡ old ++ c ∷ [] → AddsCase old (head_of c) c.body new
adds-case old new c is = record {
  said = ap (flat_map marks_of_case) is ∙ case_marks-push old c;
  shallow = ap (λ cs. greatest (map depth_of_case cs)) is ∙ case_depth-push old c;
}

-- a case is opened in a switch without cases, or after another case
pub first_case-adds : (old mid new : OpenBlocks) (selector : ℕ) (cases : Vec SwitchCase Global) (head : CaseHead) (inner : Block) → TakesBlock old (opener.Switch selector) inner mid → Opens (opener.Case selector cases head) mid new → cases.items ≡ [] → Adds (mark.Case head) old new
first_case-adds old mid new selector cases head inner taken opens none =
    swap-adds old mid new (opener.Switch selector) (opener.Case selector cases head) inner (mark.Case head) taken opens
    (λ empty.
    ap (λ cs. mark.Switch selector ∷ (flat_map marks_of_case cs ++ mark.Case head ∷ [])) none
    ∙ ap (λ xs. mark.Switch selector ∷ (xs ++ mark.Case head ∷ [])) (sym (marks-none inner (empty refl))))
    (omega (arith, ap (λ cs. greatest (map depth_of_case cs)) none))

pub next_case-adds : (old mid new : OpenBlocks) (selector : ℕ) (cases more : Vec SwitchCase Global) (before head : CaseHead) (inner : Block) → TakesBlock old (opener.Case selector cases before) inner mid → Opens (opener.Case selector more head) mid new → AddsCase cases.items before inner more.items → Adds (mark.Case head) old new
next_case-adds old mid new selector cases more before head inner taken opens adds =
    swap-adds old mid new (opener.Case selector cases before) (opener.Case selector more head) inner (mark.Case head) taken opens
    (λ _. ap (λ xs. mark.Switch selector ∷ xs) (more_cases cases.items more.items before inner (mark.Case head) adds))
    (omega (arith, adds.shallow))

-- the kinds of blocks of which the innermost is taken, or none is left
pub kinds-taken : (old mid : OpenBlocks) (p : Opener) (inner : Block) → TakesBlock old p inner mid → kinds (outer_of old) ≡ kind_of p ∷ kinds (outer_of mid)
kinds-taken old mid p inner h = ap kinds (ap reverse h.0 ∙ reverse-push mid.outer.items (record { block = mid.block; opener = p }))

pub kinds-none : (old : OpenBlocks) → old.outer.items ≡ [] → kinds (outer_of old) ≡ []
kinds-none old h = ap (λ (xs : List OuterBlock). kinds (reverse xs)) h

-- what is known of `Ok`, with another result and another state
pub added-along : (m : Mark) (old s t : OpenBlocks) (r q : Result (Unit {0}) Unread) → r ≡ q → s ≡ t → OnOk q (Adds m old t) → OnOk r (Adds m old s)
added-along m old s t r q same_result same_state h =
    subst (λ u. OnOk u (Adds m old s)) (sym same_result) (subst (λ u. OnOk q (Adds m old u)) (sym same_state) h)

-- `else` and `continuing`, of what opening their blocks returned
pub reject-added : (old mid new : OpenBlocks) (p : Opener) (condition : ℕ) (accept : Block) (r : Result (Unit {0}) Unread) → TakesBlock old p accept mid → p ≡ opener.Accept condition → OnOk r (Opens (opener.Reject condition accept) mid new) → OnOk r (Adds mark.Else old new)
reject-added old mid new p condition accept (Ok x) taken is opens =
    swap-adds old mid new (opener.Accept condition) (opener.Reject condition accept) accept mark.Else (subst (λ q. TakesBlock old q accept mid) is taken) opens (λ _. refl) (omega arith)
reject-added old mid new p condition accept (Err e) taken is opens = tt

pub continuing-added : (old mid new : OpenBlocks) (p : Opener) (body : Block) (r : Result (Unit {0}) Unread) → TakesBlock old p body mid → p ≡ opener.Body → OnOk r (Opens (opener.Continuing body) mid new) → OnOk r (Adds mark.Continuing old new)
continuing-added old mid new p body (Ok x) taken is opens =
    swap-adds old mid new opener.Body (opener.Continuing body) body mark.Continuing (subst (λ q. TakesBlock old q body mid) is taken) opens (λ _. refl) (omega arith)
continuing-added old mid new p body (Err e) taken is opens = tt

-- a case, of what opening its block returned
pub first_case-added : (old mid new : OpenBlocks) (p : Opener) (selector : ℕ) (cases : Vec SwitchCase Global) (head : CaseHead) (inner : Block) (r : Result (Unit {0}) Unread) → TakesBlock old p inner mid → p ≡ opener.Switch selector → cases.items ≡ [] → OnOk r (Opens (opener.Case selector cases head) mid new) → OnOk r (Adds (mark.Case head) old new)
first_case-added old mid new p selector cases head inner (Ok x) taken is none opens =
    first_case-adds old mid new selector cases head inner (subst (λ q. TakesBlock old q inner mid) is taken) opens none
first_case-added old mid new p selector cases head inner (Err e) taken is none opens = tt

pub next_case-added : (old mid new : OpenBlocks) (p : Opener) (selector : ℕ) (cases more : Vec SwitchCase Global) (before head : CaseHead) (inner : Block) (r : Result (Unit {0}) Unread) → TakesBlock old p inner mid → p ≡ opener.Case selector cases before → AddsCase cases.items before inner more.items → OnOk r (Opens (opener.Case selector more head) mid new) → OnOk r (Adds (mark.Case head) old new)
next_case-added old mid new p selector cases more before head inner (Ok x) taken is adds opens =
    next_case-adds old mid new selector cases more before head inner (subst (λ q. TakesBlock old q inner mid) is taken) opens adds
next_case-added old mid new p selector cases more before head inner (Err e) taken is adds opens = tt
