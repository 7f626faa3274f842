-- What statements name themselves, by groups of variants.
use Rattle.std.specs.Prelude.{ℕ, List, []}
use Rattle.naga_ir.specs.Statements.{own_operands, own_references, own_target}
use Rattle.naga_ir.specs.declared.reference.Reference.{Reference}
use Rattle.naga_ir.specs.declared.statement.Statement.{Statement}
use Rattle.naga_ir.specs.declared.statement.Block.{Block}
use Rattle.naga_ir.specs.declared.statement.SwitchCase.{SwitchCase}
use Rattle.naga_ir.specs.declared.statement.Statement.TheOpen.{Statement-F}
use Rattle.naga_ir.specs.declared.statement.Statement.TheOpen as one
use Rattle.naga_ir.specs.declared.statement.Statement.TheViews.{out-Statement}

-- a statement with its variant in sight
abbrev pub Form : Type 0
Form = Statement-F Statement Block SwitchCase

-- what a statement refers to, without the blocks in it
abbrev pub references_of : Statement → List Reference
references_of s = own_references Statement Block SwitchCase (out-Statement s)

-- the range that a statement emits, or the function that it calls
abbrev pub target_of : Statement → List Reference
target_of s = own_target Statement Block SwitchCase (out-Statement s)

-- the expressions that a statement names, without the blocks in it
abbrev pub operands_of : Statement → List ℕ
operands_of s = own_operands Statement Block SwitchCase (out-Statement s)

-- the arguments that a statement calls a function with
unfoldable pub call_arguments : Form → List ℕ
call_arguments (one.Call function arguments result) = arguments
call_arguments _ = []

-- a statement stores to an image or a cooperative matrix, or loads for a whole workgroup
abbrev pub UsesMemory : Form → Type 0
UsesMemory (one.ImageStore image coordinate array_index value) = Unit {0}
UsesMemory (one.WorkGroupUniformLoad pointer result) = Unit {0}
UsesMemory (one.CooperativeStore target pointer stride) = Unit {0}
UsesMemory _ = ⊥

-- a statement is an atomic operation
abbrev pub IsAtomic : Form → Type 0
IsAtomic (one.Atomic pointer fun value result) = Unit {0}
IsAtomic (one.ImageAtomic image coordinate array_index fun value) = Unit {0}
IsAtomic _ = ⊥

-- a statement is an operation of a subgroup
abbrev pub UsesSubgroup : Form → Type 0
UsesSubgroup (one.SubgroupBallot result predicate) = Unit {0}
UsesSubgroup (one.SubgroupGather mode argument result) = Unit {0}
UsesSubgroup (one.SubgroupCollectiveOperation op collective_op argument result) = Unit {0}
UsesSubgroup _ = ⊥
