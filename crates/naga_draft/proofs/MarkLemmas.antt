-- The marks of statements and blocks, and how many blocks are open in them, unfolded once.
use Rattle.std.proofs.Common.{◌≡◌, ℕ, ◌+◌, max, List, [], ◌∷◌, ◌++◌, map, refl, sym, ap, ◌∙◌, arith}
use Rattle.std.proofs.lemmas.List.{map-append, append-nil}
use Rattle.std.proofs.lemmas.List.Concat.{flat_map-append}
use Rattle.std.specs.List.{flat_map}
use Rattle.naga_ir.proofs.StatementLemmas.{flat_map-of_map}
use Rattle.naga_ir.specs.declared.statement.Block.{Block}
use Rattle.naga_ir.specs.declared.statement.Statement.{Statement}
use Rattle.naga_ir.specs.declared.statement.Statement.TheFolds.{fold_out-Block, fold_out-Statement, fold_out-SwitchCase, map-Statement}
use Rattle.naga_ir.specs.declared.statement.Statement.TheOpen.{Statement-F}
use Rattle.naga_ir.specs.declared.statement.Statement.TheOpen as one
use Rattle.naga_ir.specs.declared.statement.Statement.TheViews.{out-Block, out-Statement, roll-Statement, roll-out-Statement}
use Rattle.naga_ir.specs.declared.statement.SwitchCase.{SwitchCase}
use Rattle.naga_ir.specs.steps.StatementParts.{Form}
use Rattle.naga_draft.specs.Bodies.{Marks, block_depth_step, block_step, case_depth_step, case_step, depth, greatest, marks_of_block, statement_depth_step, statement_step}
use Rattle.naga_draft.specs.BodyParts.{HasNoBlocks, IsBlockless, depth_of_case, depth_of_statement, head_of, marks_of_case, marks_of_statement}
use Rattle.naga_draft.specs.declared.item.Mark.TheVariants as mark

-- the statements of a block
abbrev pub items_of : Block → List Statement
items_of b = (out-Block b).body.items

-- the marks of a form of a statement
abbrev pub own_marks : Form → Marks
own_marks (one.Block b) = mark.Block ∷ (marks_of_block b ++ mark.End ∷ [])
own_marks (one.If condition accept reject) = mark.If condition ∷ (marks_of_block accept ++ mark.Else ∷ (marks_of_block reject ++ mark.End ∷ []))
own_marks (one.Switch selector cases) = mark.Switch selector ∷ (flat_map marks_of_case cases.items ++ mark.End ∷ [])
own_marks (one.Loop body continuing break_if) = mark.Loop ∷ (marks_of_block body ++ mark.Continuing ∷ (marks_of_block continuing ++ mark.EndOfLoop break_if ∷ []))
own_marks x = mark.Statement (roll-Statement x) ∷ []

-- how many blocks are open at a time in a form of a statement
abbrev pub own_depth : Form → ℕ
own_depth (one.Block b) = depth b + 1
own_depth (one.If condition accept reject) = max (depth accept) (depth reject) + 1
own_depth (one.Switch selector cases) = greatest (map depth_of_case cases.items) + 1
own_depth (one.Loop body continuing break_if) = max (depth body) (depth continuing) + 1
own_depth _ = 0

abbrev with_marks : Form → Statement-F Marks Marks Marks
with_marks = map-Statement Statement Block SwitchCase Marks Marks Marks marks_of_statement marks_of_block marks_of_case

abbrev with_depths : Form → Statement-F ℕ ℕ ℕ
with_depths = map-Statement Statement Block SwitchCase ℕ ℕ ℕ depth_of_statement depth depth_of_case

step-marks : (x : Form) → statement_step (with_marks x) ≡ own_marks x
step-marks (one.Switch selector cases) = ap (λ ms. mark.Switch selector ∷ (ms ++ mark.End ∷ [])) (flat_map-of_map marks_of_case cases.items)
step-marks _ = refl

step-depth : (x : Form) → statement_depth_step (with_depths x) ≡ own_depth x
step-depth (one.Block b) = refl
step-depth _ = refl

-- the marks of a statement, by its form
pub marks_of_statement-out : (s : Statement) → marks_of_statement s ≡ own_marks (out-Statement s)
unfolding marks_of_statement marks_of_block marks_of_case
marks_of_statement-out s = fold_out-Statement Marks Marks Marks statement_step block_step case_step s ∙ step-marks (out-Statement s)

-- the depth of a statement, by its form
pub depth_of_statement-out : (s : Statement) → depth_of_statement s ≡ own_depth (out-Statement s)
unfolding depth_of_statement depth depth_of_case
depth_of_statement-out s = fold_out-Statement ℕ ℕ ℕ statement_depth_step block_depth_step case_depth_step s ∙ step-depth (out-Statement s)

-- the marks and the depth of a block, by its statements
pub marks_of_block-out : (b : Block) → marks_of_block b ≡ flat_map marks_of_statement (items_of b)
unfolding marks_of_block marks_of_statement
marks_of_block-out b = fold_out-Block Marks Marks Marks statement_step block_step case_step b ∙ flat_map-of_map marks_of_statement (items_of b)

pub depth-out : (b : Block) → depth b ≡ greatest (map depth_of_statement (items_of b))
unfolding depth depth_of_statement
depth-out b = fold_out-Block ℕ ℕ ℕ statement_depth_step block_depth_step case_depth_step b

-- the marks and the depth of a case, by its block
pub marks_of_case-out : (c : SwitchCase) → marks_of_case c ≡ mark.Case (head_of c) ∷ marks_of_block c.body
unfolding marks_of_case marks_of_block
marks_of_case-out c = fold_out-SwitchCase Marks Marks Marks statement_step block_step case_step c

pub depth_of_case-out : (c : SwitchCase) → depth_of_case c ≡ depth c.body
unfolding depth_of_case depth
depth_of_case-out c = fold_out-SwitchCase ℕ ℕ ℕ statement_depth_step block_depth_step case_depth_step c

own_marks-plain : (x : Form) → IsBlockless x → own_marks x ≡ mark.Statement (roll-Statement x) ∷ []
own_marks-plain (one.Block b) h = absurd h
own_marks-plain (one.If condition accept reject) h = absurd h
own_marks-plain (one.Switch selector cases) h = absurd h
own_marks-plain (one.Loop body continuing break_if) h = absurd h
own_marks-plain _ h = refl

own_depth-plain : (x : Form) → IsBlockless x → own_depth x ≡ 0
own_depth-plain (one.Block b) h = absurd h
own_depth-plain (one.If condition accept reject) h = absurd h
own_depth-plain (one.Switch selector cases) h = absurd h
own_depth-plain (one.Loop body continuing break_if) h = absurd h
own_depth-plain _ h = refl

-- a statement without blocks is one mark, and opens none
pub marks-plain : (s : Statement) → HasNoBlocks s → marks_of_statement s ≡ mark.Statement s ∷ []
marks-plain s h = marks_of_statement-out s ∙ own_marks-plain (out-Statement s) h ∙ ap (λ t. mark.Statement t ∷ []) (roll-out-Statement s)

pub depth-plain : (s : Statement) → HasNoBlocks s → depth_of_statement s ≡ 0
depth-plain s h = depth_of_statement-out s ∙ own_depth-plain (out-Statement s) h

-- the greatest of numbers and one more
pub greatest-push : (ns : List ℕ) (n : ℕ) → greatest (ns ++ n ∷ []) ≡ max (greatest ns) n
greatest-push [] n = omega arith
greatest-push (k ∷ ns) n = omega (arith, greatest-push ns n)

-- a block without statements
pub marks-none : (b : Block) → items_of b ≡ [] → marks_of_block b ≡ []
marks-none b h = marks_of_block-out b ∙ ap (flat_map marks_of_statement) h

pub depth-none : (b : Block) → items_of b ≡ [] → depth b ≡ 0
depth-none b h = depth-out b ∙ ap (λ ss. greatest (map depth_of_statement ss)) h

-- a block with one more statement
pub marks-push : (b more : Block) (s : Statement) → items_of more ≡ items_of b ++ s ∷ [] → marks_of_block more ≡ marks_of_block b ++ marks_of_statement s
marks-push b more s h =
    marks_of_block-out more
    ∙ ap (flat_map marks_of_statement) h
    ∙ flat_map-append marks_of_statement (items_of b) (s ∷ [])
    ∙ ap (λ ms. flat_map marks_of_statement (items_of b) ++ ms) (append-nil (marks_of_statement s))
    ∙ ap (λ ms. ms ++ marks_of_statement s) (sym (marks_of_block-out b))

pub depth-push : (b more : Block) (s : Statement) → items_of more ≡ items_of b ++ s ∷ [] → depth more ≡ max (depth b) (depth_of_statement s)
depth-push b more s h =
    depth-out more
    ∙ ap (λ ss. greatest (map depth_of_statement ss)) h
    ∙ ap greatest (map-append depth_of_statement (items_of b) (s ∷ []))
    ∙ greatest-push (map depth_of_statement (items_of b)) (depth_of_statement s)
    ∙ ap (λ n. max n (depth_of_statement s)) (sym (depth-out b))

-- a case of a switch with one more
pub case_marks-push : (cs : List SwitchCase) (c : SwitchCase) → flat_map marks_of_case (cs ++ c ∷ []) ≡ flat_map marks_of_case cs ++ mark.Case (head_of c) ∷ marks_of_block c.body
case_marks-push cs c =
    flat_map-append marks_of_case cs (c ∷ [])
    ∙ ap (λ ms. flat_map marks_of_case cs ++ ms) (append-nil (marks_of_case c) ∙ marks_of_case-out c)

pub case_depth-push : (cs : List SwitchCase) (c : SwitchCase) → greatest (map depth_of_case (cs ++ c ∷ [])) ≡ max (greatest (map depth_of_case cs)) (depth c.body)
case_depth-push cs c =
    ap greatest (map-append depth_of_case cs (c ∷ []))
    ∙ greatest-push (map depth_of_case cs) (depth_of_case c)
    ∙ ap (λ n. max (greatest (map depth_of_case cs)) n) (depth_of_case-out c)
