-- What a statement refers to, by how much that is.
use Rattle.std.specs.Prelude.{◌≡◌, [], ◌∷◌, map}
use Rattle.naga_ir.specs.declared.block_references.OwnReferences.{OwnReferences}
use Rattle.naga_ir.specs.declared.block_references.OwnReferences.TheVariants.{Nothing, Emitted, One, Two, More}
use Rattle.naga_ir.specs.declared.reference.Reference.TheVariants as to
use Rattle.naga_ir.specs.declared.statement.Statement.{Statement}
use Rattle.naga_ir.specs.declared.statement.Statement.TheOpen as one
use Rattle.naga_ir.specs.declared.statement.Statement.TheViews.{out-Statement}
use Rattle.naga_ir.specs.steps.StatementParts.{Form, references_of}

-- a statement is of a variant that few statements have, so that what it refers to may be put into a list
unfoldable pub IsListed : Form → Type 0
IsListed (one.ImageStore image coordinate array_index value) = Unit {0}
IsListed (one.Atomic pointer fun value result) = Unit {0}
IsListed (one.ImageAtomic image coordinate array_index fun value) = Unit {0}
IsListed (one.WorkGroupUniformLoad pointer result) = Unit {0}
IsListed (one.Call function arguments result) = Unit {0}
IsListed (one.RayQuery query fun) = Unit {0}
IsListed (one.RayPipelineFunction fun) = Unit {0}
IsListed (one.SubgroupBallot result predicate) = Unit {0}
IsListed (one.SubgroupGather mode argument result) = Unit {0}
IsListed (one.SubgroupCollectiveOperation op collective_op argument result) = Unit {0}
IsListed (one.CooperativeStore target pointer stride) = Unit {0}
IsListed _ = ⊥

-- the second argument holds all that the statement `s` refers to, the blocks in it aside, or is `More`, for a variant
-- that few statements have
abbrev pub IsOwn : Statement → OwnReferences → Type 0
IsOwn s Nothing = references_of s ≡ []
IsOwn s (Emitted range) = references_of s ≡ to.Emit range ∷ []
IsOwn s (One operand) = references_of s ≡ to.Expression operand ∷ []
IsOwn s (Two operands) = references_of s ≡ map to.Expression operands
IsOwn s More = IsListed (out-Statement s)
