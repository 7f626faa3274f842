-- The stages of entry points.
use Rattle.std.specs.Prelude.{ℕ, Bool as Boolean, true, false}
use Rattle.naga_flags.specs.Bits.{ANY_HIT, CLOSEST_HIT, COMPUTE, FRAGMENT, MESH, MISS, RAY_GENERATION, TASK, VERTEX}
use Rattle.naga_ir.specs.declared.ir.ShaderStage.{ShaderStage}
use Rattle.naga_ir.specs.declared.ir.ShaderStage.TheVariants as stage

-- the flag of a stage
abbrev pub stage_flag : ShaderStage → ℕ
stage_flag stage.Vertex = VERTEX
stage_flag stage.Task = TASK
stage_flag stage.Mesh = MESH
stage_flag stage.Fragment = FRAGMENT
stage_flag stage.Compute = COMPUTE
stage_flag stage.RayGeneration = RAY_GENERATION
stage_flag stage.Miss = MISS
stage_flag stage.AnyHit = ANY_HIT
stage_flag stage.ClosestHit = CLOSEST_HIT

-- entry points of the stage can be validated; the rules of meshes and rays are not covered
abbrev pub is_covered : ShaderStage → Boolean
is_covered stage.Vertex = true
is_covered stage.Fragment = true
is_covered stage.Compute = true
is_covered _ = false
