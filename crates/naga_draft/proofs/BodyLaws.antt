-- Which marks can begin a body: those that are read, and none with a mark that is refused.
use Rattle.std.proofs.Common.{◌≡◌, ◌+◌, ◌<◌, ◌≤◌, ◌^◌, true, false, cond, List, [], ◌∷◌, ◌++◌, append_assoc, append-nil, length, length-append, None, Some, Result, Ok, Err, IfErr, OnOk, refl, sym, ap, ◌∙◌, subst, arith, Global}
use Rattle.std.specs.List.{flat_map}
use Rattle.std.specs.Prelude.{Vec}
use Rattle.naga_ir.specs.declared.statement.Block.{Block}
use Rattle.naga_ir.specs.declared.statement.Statement.{Statement}
use Rattle.naga_ir.specs.declared.statement.Statement.TheOpen as one
use Rattle.naga_ir.specs.declared.statement.Statement.TheViews.{out-Block, out-roll-Block, out-roll-Statement, out-Statement, roll-Block, roll-Statement}
use Rattle.naga_ir.specs.declared.statement.SwitchCase.{SwitchCase}
use Rattle.naga_ir.specs.steps.StatementParts.{Form}
use Rattle.naga_draft.proofs.BlockLemmas.{adds-case, begin-adds, closes-block, closes-empty_switch, closes-if, closes-loop, closes-switch, read-close}
use Rattle.naga_draft.proofs.MarkLemmas.{depth-none, depth_of_statement-out, items_of, marks-none, marks_of_block-out, marks_of_case-out, marks_of_statement-out, own_depth, own_marks}
use Rattle.naga_draft.proofs.MarkRuns.{step-refuses}
use Rattle.naga_draft.specs.Bodies.{IsBody, Marks, marks_of_block}
use Rattle.naga_draft.specs.BodyParts.{CanBeginBody, marks_of_case, marks_of_statement}
use Rattle.naga_draft.specs.declared.blocks.OpenBlocks.{OpenBlocks}
use Rattle.naga_draft.specs.declared.blocks.Opener.{Opener}
use Rattle.naga_draft.specs.declared.blocks.Opener.TheVariants as opener
use Rattle.naga_draft.specs.declared.blocks.OuterBlock.{OuterBlock}
use Rattle.naga_draft.specs.declared.item.Mark.{Mark}
use Rattle.naga_draft.specs.declared.item.Mark.TheVariants as mark
use Rattle.naga_draft.specs.declared.unread.Unread.{Unread}
use Rattle.naga_draft.specs.declared.unread.Unread.TheVariants as unread
use Rattle.naga_draft.specs.OpenBlocks.{AreRead, Closes, IsRead, Kind, Opens, Refuses, has_room, kinds, marks_around, opened, opener_depth, opener_marks, outer_of, step}

-- no body begins with marks that were read and one that is refused
pub mark-refused : (m k : Mark) (old : OpenBlocks) (r : Result (Unit {0}) Unread) → k ≡ m → IfErr r (λ e. e ≡ unread.Item → Refuses m old) → (marks : Marks) → AreRead marks old → IfErr r (λ e. e ≡ unread.Item → ¬ (CanBeginBody (marks ++ k ∷ [])))
mark-refused m k old (Ok x) is h marks read = tt
mark-refused m k old (Err e) is h marks read = λ item.
    subst (λ n. ¬ (CanBeginBody (marks ++ n ∷ []))) (sym is) (step-refuses marks (outer_of old) old.block m read (h item))

-- the same of a mark that begins a statement that has blocks
pub begin-refused : (m k : Mark) (kind : Kind) (old : OpenBlocks) (r : Result (Unit {0}) Unread) → k ≡ m → step (kinds (outer_of old)) m ≡ opened kind (kinds (outer_of old)) → IfErr r (λ e. e ≡ unread.Item → has_room (kinds (outer_of old)) ≡ false) → (marks : Marks) → AreRead marks old → IfErr r (λ e. e ≡ unread.Item → ¬ (CanBeginBody (marks ++ k ∷ [])))
begin-refused m k kind old (Ok x) is opens h marks read = tt
begin-refused m k kind old (Err e) is opens h marks read = λ item.
    let none : step (kinds (outer_of old)) m ≡ None = opens ∙ ap (λ b. cond b (Some (kind ∷ kinds (outer_of old))) None) (h item) in
    subst (λ n. ¬ (CanBeginBody (marks ++ n ∷ []))) (sym is) (step-refuses marks (outer_of old) old.block m read none)

-- a mark that begins a statement that has blocks is read
pub begin-added : (m k : Mark) (p : Opener) (old new : OpenBlocks) (r : Result (Unit {0}) Unread) → k ≡ m → opener_marks p ≡ m ∷ [] → opener_depth p ≡ 0 → OnOk r (Opens p old new) → OnOk r (has_room (kinds (outer_of old)) ≡ true) → (marks : Marks) → AreRead marks old → OnOk r (AreRead (marks ++ k ∷ []) new)
begin-added m k p old new (Ok x) is said flat opens room marks read =
    subst (λ n. AreRead (marks ++ n ∷ []) new) (sym is) (begin-adds old new p m opens room said flat marks read)
begin-added m k p old new (Err e) is said flat opens room marks read = tt

-- a beginning of what can begin a body can begin one
pub begins-shorter : (marks more : Marks) → CanBeginBody (marks ++ more) → CanBeginBody marks
begins-shorter marks more c = (more ++ c.0, c.1, record { said = sym (append_assoc marks more c.0) ∙ c.2.said; shallow = c.2.shallow })

-- the marks of a body can begin one
pub body-begins : (marks : Marks) (b : Block) → IsBody marks b → CanBeginBody marks
body-begins marks b h = ([], b, record { said = append-nil marks ∙ h.said; shallow = h.shallow })

-- a vector of given items
vec_of : {A B : Type 0} (v : Vec A Global) (items : List B) → length items < 2 ^ 63 → Vec B Global
vec_of v items few = record { ptr = v.ptr; len = length items; cap = length items; alloc = v.alloc; items = items; ok = (refl, omega arith); small = few }

vec_of-items : {A B : Type 0} (v : Vec A Global) (items : List B) (few : length items < 2 ^ 63) → (vec_of v items few).items ≡ items
unfolding vec_of
vec_of-items v items few = refl

-- a block of given statements
block_of : (b : Block) (items : List Statement) → length items < 2 ^ 63 → Block
block_of b items few = roll-Block (record { body = vec_of (out-Block b).body items few })

block_of-items : (b : Block) (items : List Statement) (few : length items < 2 ^ 63) → items_of (block_of b items few) ≡ items
unfolding block_of
block_of-items b items few = ap (λ x. x.body.items) (out-roll-Block (record { body = vec_of (out-Block b).body items few })) ∙ vec_of-items (out-Block b).body items few

own_marks-some : (x : Form) → 1 ≤ length (own_marks x)
own_marks-some (one.Block b) = omega arith
own_marks-some (one.If condition accept reject) = omega arith
own_marks-some (one.Switch selector cases) = omega arith
own_marks-some (one.Loop body continuing break_if) = omega arith
own_marks-some _ = omega arith

-- a block has no more statements than marks, and a switch no more cases
statements-few : (ss : List Statement) → length ss ≤ length (flat_map marks_of_statement ss)
statements-few [] = omega arith
statements-few (s ∷ ss) =
    let some : 1 ≤ length (marks_of_statement s) = subst (λ ms. 1 ≤ length ms) (sym (marks_of_statement-out s)) (own_marks-some (out-Statement s)) in
    omega (arith, some, statements-few ss, length-append (marks_of_statement s) (flat_map marks_of_statement ss))

items-few : (b : Block) → length (items_of b) ≤ length (marks_of_block b)
items-few b = subst (λ ms. length (items_of b) ≤ length ms) (sym (marks_of_block-out b)) (statements-few (items_of b))

cases-few : (cs : List SwitchCase) → length cs ≤ length (flat_map marks_of_case cs)
cases-few [] = omega arith
cases-few (c ∷ cs) = omega (arith, ap length (marks_of_case-out c), cases-few cs, length-append (marks_of_case c) (flat_map marks_of_case cs))

-- how a statement can end whose last block is open
record Ending (p : Opener) (last : Block) : Type 0 where
  marks : Marks
  statement : Statement
  closes : Closes marks p last statement

-- a statement of a form
by_form : (x : Form) → out-Statement (roll-Statement x) ≡ x
by_form x = out-roll-Statement x

ending : (p : Opener) (last : Block) → length (opener_marks p) < 2 ^ 63 → Ending p last
ending opener.Block last few =
    let s : Statement = roll-Statement (one.Block last) in
    record { marks = mark.End ∷ []; statement = s; closes = closes-block last s (by_form (one.Block last)) }
ending (opener.Accept condition) last few =
    let empty : Block = block_of last [] (omega arith) in
    let none : items_of empty ≡ [] = block_of-items last [] (omega arith) in
    let s : Statement = roll-Statement (one.If condition last empty) in
    let is : out-Statement s ≡ one.If condition last empty = by_form (one.If condition last empty) in
    record {
      marks = mark.Else ∷ mark.End ∷ [];
      statement = s;
      closes = record {
        said = λ _. marks_of_statement-out s ∙ ap own_marks is ∙ ap (λ ms. mark.If condition ∷ (marks_of_block last ++ mark.Else ∷ (ms ++ mark.End ∷ []))) (marks-none empty none);
        shallow = omega (arith, depth_of_statement-out s ∙ ap own_depth is, depth-none empty none);
      };
    }
ending (opener.Reject condition accept) last few =
    let s : Statement = roll-Statement (one.If condition accept last) in
    record { marks = mark.End ∷ []; statement = s; closes = closes-if condition accept last s (by_form (one.If condition accept last)) }
ending (opener.Switch selector) last few =
    let cases : Vec SwitchCase Global = vec_of (out-Block last).body [] (omega arith) in
    let s : Statement = roll-Statement (one.Switch selector cases) in
    record { marks = mark.End ∷ []; statement = s; closes = closes-empty_switch selector cases last s (by_form (one.Switch selector cases)) (vec_of-items (out-Block last).body [] (omega arith)) }
ending (opener.Case selector cases head) last few =
    let case : SwitchCase = record { value = head.value; body = last; fall_through = head.fall_through } in
    let fits : length (cases.items ++ case ∷ []) < 2 ^ 63 =
    omega (arith, few, cases-few cases.items, length-append cases.items (case ∷ []), length-append (flat_map marks_of_case cases.items) (mark.Case head ∷ [])) in
    let all : Vec SwitchCase Global = vec_of cases (cases.items ++ case ∷ []) fits in
    let s : Statement = roll-Statement (one.Switch selector all) in
    record {
      marks = mark.End ∷ [];
      statement = s;
      closes = closes-switch selector cases all head last s (by_form (one.Switch selector all)) (adds-case cases.items all.items case (vec_of-items cases (cases.items ++ case ∷ []) fits));
    }
ending opener.Body last few =
    let empty : Block = block_of last [] (omega arith) in
    let none : items_of empty ≡ [] = block_of-items last [] (omega arith) in
    let s : Statement = roll-Statement (one.Loop last empty None) in
    let is : out-Statement s ≡ one.Loop last empty None = by_form (one.Loop last empty None) in
    record {
      marks = mark.Continuing ∷ mark.EndOfLoop None ∷ [];
      statement = s;
      closes = record {
        said = λ _. marks_of_statement-out s ∙ ap own_marks is ∙ ap (λ ms. mark.Loop ∷ (marks_of_block last ++ mark.Continuing ∷ (ms ++ mark.EndOfLoop None ∷ []))) (marks-none empty none);
        shallow = omega (arith, depth_of_statement-out s ∙ ap own_depth is, depth-none empty none);
      };
    }
ending (opener.Continuing body) last few =
    let s : Statement = roll-Statement (one.Loop body last None) in
    record { marks = mark.EndOfLoop None ∷ []; statement = s; closes = closes-loop body last None s (by_form (one.Loop body last None)) }

opener_marks-some : (p : Opener) → 1 ≤ length (opener_marks p)
opener_marks-some opener.Block = omega arith
opener_marks-some (opener.Accept condition) = omega arith
opener_marks-some (opener.Reject condition accept) = omega arith
opener_marks-some (opener.Switch selector) = omega arith
opener_marks-some (opener.Case selector cases head) = omega arith
opener_marks-some opener.Body = omega arith
opener_marks-some (opener.Continuing body) = omega arith

-- what was read can be completed from the innermost block outwards
completes : (outer : List OuterBlock) (block : Block) (marks : Marks) → IsRead marks outer block → length (marks_around outer) < 2 ^ 63 → CanBeginBody marks
completes [] block marks h few = ([], block, record { said = append-nil marks ∙ h.said; shallow = omega (arith, h.shallow) })
completes (o ∷ outer) block marks h few =
    let whole : length (marks_around outer ++ (marks_of_block o.block ++ opener_marks o.opener)) ≡ length (marks_around outer) + length (marks_of_block o.block ++ opener_marks o.opener) = length-append (marks_around outer) (marks_of_block o.block ++ opener_marks o.opener) in
    let part : length (marks_of_block o.block ++ opener_marks o.opener) ≡ length (marks_of_block o.block) + length (opener_marks o.opener) = length-append (marks_of_block o.block) (opener_marks o.opener) in
    let e : Ending o.opener block = ending o.opener block (omega (arith, few, whole, part)) in
    let fits : length (items_of o.block ++ e.statement ∷ []) < 2 ^ 63 = omega (arith, few, whole, part, items-few o.block, opener_marks-some o.opener, length-append (items_of o.block) (e.statement ∷ [])) in
    let more : Block = block_of o.block (items_of o.block ++ e.statement ∷ []) fits in
    let closed : IsRead (marks ++ e.marks) outer more = read-close marks outer o.block block more o.opener e.marks e.statement h e.closes (block_of-items o.block (items_of o.block ++ e.statement ∷ []) fits) in
    begins-shorter marks e.marks (completes outer more (marks ++ e.marks) closed (omega (arith, few, whole)))

-- what was read can begin a body
pub read-begins : (marks : Marks) (blocks : OpenBlocks) → AreRead marks blocks → length marks < 2 ^ 63 → CanBeginBody marks
read-begins marks blocks h few =
    completes (outer_of blocks) blocks.block marks h
    (omega (arith, few, ap length h.said, length-append (marks_around (outer_of blocks)) (marks_of_block blocks.block)))
