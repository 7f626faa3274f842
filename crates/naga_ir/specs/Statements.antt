-- What statements refer to.
use Rattle.std.specs.Prelude.{ℕ, List, [], ◌∷◌, ◌++◌, map, option_to_list}
use Rattle.std.specs.List.{flat_map}
use Rattle.naga_ir.specs.declared.statement.AtomicFunction.{AtomicFunction}
use Rattle.naga_ir.specs.declared.statement.AtomicFunction.TheVariants.{Exchange}
use Rattle.naga_ir.specs.declared.statement.RayQueryFunction.{RayQueryFunction}
use Rattle.naga_ir.specs.declared.statement.RayQueryFunction.TheVariants.{Initialize, Proceed, GenerateIntersection, ConfirmIntersection, Terminate}
use Rattle.naga_ir.specs.declared.statement.RayPipelineFunction.{RayPipelineFunction}
use Rattle.naga_ir.specs.declared.statement.RayPipelineFunction.TheVariants.{TraceRay}
use Rattle.naga_ir.specs.declared.statement.GatherMode.{GatherMode}
use Rattle.naga_ir.specs.declared.statement.GatherMode.TheVariants.{BroadcastFirst, Broadcast, Shuffle, ShuffleDown, ShuffleUp, ShuffleXor, QuadBroadcast, QuadSwap}
use Rattle.naga_ir.specs.declared.statement.Statement.{Statement}
use Rattle.naga_ir.specs.declared.statement.Block.{Block}
use Rattle.naga_ir.specs.declared.statement.SwitchCase.{SwitchCase}
use Rattle.naga_ir.specs.declared.statement.Statement.TheOpen.{Statement-F, Block-F, SwitchCase-F}
use Rattle.naga_ir.specs.declared.statement.Statement.TheOpen as one
use Rattle.naga_ir.specs.declared.statement.Statement.TheFolds.{fold-Statement, fold-Block, fold-SwitchCase}
use Rattle.naga_ir.specs.declared.reference.Reference.{Reference}
use Rattle.naga_ir.specs.declared.reference.Reference.TheVariants as to

-- what a compare-and-exchange compares with
abbrev pub compare_operand : AtomicFunction → List ℕ
compare_operand (Exchange compare) = option_to_list compare
compare_operand _ = []

-- the operands of a step of a ray query
abbrev pub ray_query_operands : RayQueryFunction → List ℕ
ray_query_operands (Initialize acceleration_structure descriptor) = acceleration_structure ∷ descriptor ∷ []
ray_query_operands (Proceed result) = result ∷ []
ray_query_operands (GenerateIntersection hit_t) = hit_t ∷ []
ray_query_operands ConfirmIntersection = []
ray_query_operands Terminate = []

-- the operands of a step of a ray tracing pipeline
abbrev pub ray_pipeline_operands : RayPipelineFunction → List ℕ
ray_pipeline_operands (TraceRay acceleration_structure descriptor payload) =
    acceleration_structure ∷ descriptor ∷ payload ∷ []

-- the number of the invocation, if it is given by an expression
abbrev pub gather_operand : GatherMode → List ℕ
gather_operand BroadcastFirst = []
gather_operand (Broadcast index) = index ∷ []
gather_operand (Shuffle index) = index ∷ []
gather_operand (ShuffleDown index) = index ∷ []
gather_operand (ShuffleUp index) = index ∷ []
gather_operand (ShuffleXor index) = index ∷ []
gather_operand (QuadBroadcast index) = index ∷ []
gather_operand QuadSwap = []

module _ (S B C : Type 0) where
  -- the expressions that a statement itself names, in the order of its fields
  unfoldable pub own_operands : Statement-F S B C → List ℕ
  own_operands (one.If condition accept reject) = condition ∷ []
  own_operands (one.Switch selector cases) = selector ∷ []
  own_operands (one.Loop body continuing break_if) = option_to_list break_if
  own_operands (one.Return value) = option_to_list value
  own_operands (one.Store pointer value) = pointer ∷ value ∷ []
  own_operands (one.ImageStore image coordinate array_index value) =
      image ∷ coordinate ∷ option_to_list array_index ++ value ∷ []
  own_operands (one.Atomic pointer fun value result) = pointer ∷ compare_operand fun ++ value ∷ option_to_list result
  own_operands (one.ImageAtomic image coordinate array_index fun value) =
      image ∷ coordinate ∷ option_to_list array_index ++ (compare_operand fun ++ value ∷ [])
  own_operands (one.WorkGroupUniformLoad pointer result) = pointer ∷ result ∷ []
  own_operands (one.Call function arguments result) = arguments ++ option_to_list result
  own_operands (one.RayQuery query fun) = query ∷ ray_query_operands fun
  own_operands (one.RayPipelineFunction fun) = ray_pipeline_operands fun
  own_operands (one.SubgroupBallot result predicate) = result ∷ option_to_list predicate
  own_operands (one.SubgroupGather mode argument result) = gather_operand mode ++ argument ∷ result ∷ []
  own_operands (one.SubgroupCollectiveOperation op collective_op argument result) = argument ∷ result ∷ []
  own_operands (one.CooperativeStore target pointer stride) = target ∷ pointer ∷ stride ∷ []
  own_operands _ = []

  -- the range that a statement emits, or the function that it calls
  unfoldable pub own_target : Statement-F S B C → List Reference
  own_target (one.Emit range) = to.Emit range ∷ []
  own_target (one.Call function arguments result) = to.Function function ∷ []
  own_target _ = []

-- what a statement itself refers to, the blocks in it aside
abbrev pub own_references : (S B C : Type 0) → Statement-F S B C → List Reference
own_references S B C s = own_target S B C s ++ map to.Expression (own_operands S B C s)

-- what something refers to, in order
abbrev pub References : Type 0
References = List Reference

-- what the blocks in a statement refer to
abbrev pub inner_references : Statement-F References References References → References
inner_references (one.Block b) = b
inner_references (one.If condition accept reject) = accept ++ reject
inner_references (one.Switch selector cases) = flat_map (λ of_case. of_case) cases.items
inner_references (one.Loop body continuing break_if) = body ++ continuing
inner_references _ = []

-- what a statement refers to, by what the blocks in it refer to
abbrev pub statement_step : Statement-F References References References → References
statement_step s = own_references References References References s ++ inner_references s

-- what a block refers to, by what its statements refer to
abbrev pub block_step : Block-F References References References → References
block_step b = flat_map (λ of_statement. of_statement) b.body.items

-- what a case refers to, by what its block refers to
abbrev pub case_step : SwitchCase-F References References References → References
case_step c = c.body

-- what a statement refers to, and the blocks in it at any depth
unfoldable pub statement_references : Statement → References
statement_references = fold-Statement References References References statement_step block_step case_step

-- what the statements of a block refer to, at any depth
unfoldable pub block_references : Block → References
block_references = fold-Block References References References statement_step block_step case_step

-- what the statements of a case refer to, at any depth
unfoldable pub case_references : SwitchCase → References
case_references = fold-SwitchCase References References References statement_step block_step case_step
