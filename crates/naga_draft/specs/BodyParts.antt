-- Statements and cases as parts of bodies, and how a body begins.
use Rattle.std.specs.Prelude.{ℕ, ◌++◌}
use Rattle.naga_ir.specs.declared.statement.Block.{Block}
use Rattle.naga_ir.specs.declared.statement.Statement.{Statement}
use Rattle.naga_ir.specs.declared.statement.Statement.TheFolds.{fold-Statement, fold-SwitchCase}
use Rattle.naga_ir.specs.declared.statement.Statement.TheOpen as one
use Rattle.naga_ir.specs.declared.statement.Statement.TheViews.{out-Statement}
use Rattle.naga_ir.specs.declared.statement.SwitchCase.{SwitchCase}
use Rattle.naga_ir.specs.steps.StatementParts.{Form}
use Rattle.naga_draft.specs.Bodies.{IsBody, Marks, block_depth_step, block_step, case_depth_step, case_step, statement_depth_step, statement_step}
use Rattle.naga_draft.specs.declared.item.CaseHead.{CaseHead}
use Rattle.naga_draft.specs.declared.item.Mark.{Mark}
use Rattle.naga_draft.specs.declared.item.Mark.TheVariants as mark

-- a statement of a form has no blocks
abbrev pub IsBlockless : Form → Type 0
IsBlockless (one.Block b) = ⊥
IsBlockless (one.If condition accept reject) = ⊥
IsBlockless (one.Switch selector cases) = ⊥
IsBlockless (one.Loop body continuing break_if) = ⊥
IsBlockless _ = Unit {0}

-- a statement has no blocks
abbrev pub HasNoBlocks : Statement → Type 0
HasNoBlocks s = IsBlockless (out-Statement s)

-- if a mark is a statement, this has no blocks
abbrev pub IsPlain : Mark → Type 0
IsPlain (mark.Statement s) = HasNoBlocks s
IsPlain _ = Unit {0}

-- the marks that say a statement
unfoldable pub marks_of_statement : Statement → Marks
marks_of_statement = fold-Statement Marks Marks Marks statement_step block_step case_step

-- what stands before the statements of a case
abbrev pub head_of : SwitchCase → CaseHead
head_of c = record { value = c.value; fall_through = c.fall_through }

-- the marks that say a case of a switch
unfoldable pub marks_of_case : SwitchCase → Marks
marks_of_case = fold-SwitchCase Marks Marks Marks statement_step block_step case_step

-- how many blocks are open at a time in a statement
unfoldable pub depth_of_statement : Statement → ℕ
depth_of_statement = fold-Statement ℕ ℕ ℕ statement_depth_step block_depth_step case_depth_step

-- how many blocks are open at a time in the block of a case, itself aside
unfoldable pub depth_of_case : SwitchCase → ℕ
depth_of_case = fold-SwitchCase ℕ ℕ ℕ statement_depth_step block_depth_step case_depth_step

-- `marks` are the first marks of a body, or all
abbrev pub CanBeginBody : Marks → Type 0
CanBeginBody marks = (more : Marks) × (b : Block) × IsBody (marks ++ more) b
