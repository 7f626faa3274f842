-- The bodies of functions, and the marks that say them.
use Rattle.std.specs.Prelude.{◌≡◌, ℕ, ◌+◌, ◌≤◌, max, List, [], ◌∷◌, ◌++◌}
use Rattle.std.specs.List.{flat_map}
use Rattle.naga_ir.specs.declared.statement.Block.{Block}
use Rattle.naga_ir.specs.declared.statement.Statement.TheFolds.{fold-Block}
use Rattle.naga_ir.specs.declared.statement.Statement.TheOpen.{Block-F, Statement-F, SwitchCase-F}
use Rattle.naga_ir.specs.declared.statement.Statement.TheOpen as one
use Rattle.naga_ir.specs.declared.statement.Statement.TheViews.{roll-Statement}
use Rattle.naga_draft.specs.declared.item.Mark.{Mark}
use Rattle.naga_draft.specs.declared.item.Mark.TheVariants as mark

-- marks in their order
abbrev pub Marks : Type 0
Marks = List Mark

-- the marks of a statement, by those of the blocks in it
abbrev pub statement_step : Statement-F Marks Marks Marks → Marks
statement_step (one.Block b) = mark.Block ∷ (b ++ mark.End ∷ [])
statement_step (one.If condition accept reject) = mark.If condition ∷ (accept ++ mark.Else ∷ (reject ++ mark.End ∷ []))
statement_step (one.Switch selector cases) =
    mark.Switch selector ∷ (flat_map (λ of_case. of_case) cases.items ++ mark.End ∷ [])
statement_step (one.Loop body continuing break_if) =
    mark.Loop ∷ (body ++ mark.Continuing ∷ (continuing ++ mark.EndOfLoop break_if ∷ []))
statement_step (one.Emit range) = mark.Statement (roll-Statement (one.Emit range)) ∷ []
statement_step one.Break = mark.Statement (roll-Statement one.Break) ∷ []
statement_step one.Continue = mark.Statement (roll-Statement one.Continue) ∷ []
statement_step (one.Return value) = mark.Statement (roll-Statement (one.Return value)) ∷ []
statement_step one.Kill = mark.Statement (roll-Statement one.Kill) ∷ []
statement_step (one.ControlBarrier barrier) = mark.Statement (roll-Statement (one.ControlBarrier barrier)) ∷ []
statement_step (one.MemoryBarrier barrier) = mark.Statement (roll-Statement (one.MemoryBarrier barrier)) ∷ []
statement_step (one.Store pointer value) = mark.Statement (roll-Statement (one.Store pointer value)) ∷ []
statement_step (one.ImageStore image coordinate array_index value) =
    mark.Statement (roll-Statement (one.ImageStore image coordinate array_index value)) ∷ []
statement_step (one.Atomic pointer fun value result) =
    mark.Statement (roll-Statement (one.Atomic pointer fun value result)) ∷ []
statement_step (one.ImageAtomic image coordinate array_index fun value) =
    mark.Statement (roll-Statement (one.ImageAtomic image coordinate array_index fun value)) ∷ []
statement_step (one.WorkGroupUniformLoad pointer result) =
    mark.Statement (roll-Statement (one.WorkGroupUniformLoad pointer result)) ∷ []
statement_step (one.Call function arguments result) =
    mark.Statement (roll-Statement (one.Call function arguments result)) ∷ []
statement_step (one.RayQuery query fun) = mark.Statement (roll-Statement (one.RayQuery query fun)) ∷ []
statement_step (one.RayPipelineFunction fun) = mark.Statement (roll-Statement (one.RayPipelineFunction fun)) ∷ []
statement_step (one.SubgroupBallot result predicate) =
    mark.Statement (roll-Statement (one.SubgroupBallot result predicate)) ∷ []
statement_step (one.SubgroupGather mode argument result) =
    mark.Statement (roll-Statement (one.SubgroupGather mode argument result)) ∷ []
statement_step (one.SubgroupCollectiveOperation op collective_op argument result) =
    mark.Statement (roll-Statement (one.SubgroupCollectiveOperation op collective_op argument result)) ∷ []
statement_step (one.CooperativeStore target pointer stride) =
    mark.Statement (roll-Statement (one.CooperativeStore target pointer stride)) ∷ []

-- the marks of a block, by those of its statements
abbrev pub block_step : Block-F Marks Marks Marks → Marks
block_step b = flat_map (λ of_statement. of_statement) b.body.items

-- the marks of a case, by those of its block
abbrev pub case_step : SwitchCase-F Marks Marks Marks → Marks
case_step c = mark.Case (record { value = c.value; fall_through = c.fall_through }) ∷ c.body

-- the marks that say the statements of a block, without those where it begins and ends
unfoldable pub marks_of_block : Block → Marks
marks_of_block = fold-Block Marks Marks Marks statement_step block_step case_step

-- the greatest of numbers, or 0
abbrev pub greatest : List ℕ → ℕ
greatest [] = 0
greatest (n ∷ ns) = max n (greatest ns)

-- how many blocks are open at a time in a statement, by how many in each block in it
abbrev pub statement_depth_step : Statement-F ℕ ℕ ℕ → ℕ
statement_depth_step (one.Block b) = b + 1
statement_depth_step (one.If condition accept reject) = max accept reject + 1
statement_depth_step (one.Switch selector cases) = greatest cases.items + 1
statement_depth_step (one.Loop body continuing break_if) = max body continuing + 1
statement_depth_step _ = 0

-- how many blocks are open at a time in a block, by how many in each of its statements
abbrev pub block_depth_step : Block-F ℕ ℕ ℕ → ℕ
block_depth_step b = greatest b.body.items

-- how many blocks are open at a time in the block of a case, itself aside, by how many in this block
abbrev pub case_depth_step : SwitchCase-F ℕ ℕ ℕ → ℕ
case_depth_step c = c.body

-- how many blocks are open at a time in a block, itself aside
unfoldable pub depth : Block → ℕ
depth = fold-Block ℕ ℕ ℕ statement_depth_step block_depth_step case_depth_step

-- the most blocks that may be open at a time
abbrev pub most_open : ℕ
most_open = 127

-- `marks` say the body `b`, in which no more blocks are open at a time than may be
pub record IsBody (marks : Marks) (b : Block) : Type 0 where
  pub said : marks ≡ marks_of_block b
  pub shallow : depth b ≤ most_open
