-- The rules of reading from ray queries.
use Rattle.std.specs.Prelude.{◌&&◌, ◌||◌, ℕ, Bool as Boolean, true, false, not, List, Option, Some, Result}
use Rattle.naga_flags.specs.declared.flags.ShaderStages.{ShaderStages}
use Rattle.naga_ir.specs.declared.types.«Type».{«Type»}
use Rattle.naga_ir.specs.declared.types.AddressSpace.{AddressSpace}
use Rattle.naga_ir.specs.declared.types.AddressSpace.TheVariants as «space»
use Rattle.naga_ir.specs.declared.types.TypeInner.{TypeInner}
use Rattle.naga_ir.specs.declared.types.TypeInner.TheVariants.{Pointer, RayQuery}
use Rattle.naga_info.specs.Stages.{every_stage}
use Rattle.naga_info.specs.Surroundings.{ExpressionSurroundings, form_at}
use Rattle.naga_info.specs.declared.expression_error.ExpressionError.{ExpressionError}
use Rattle.naga_info.specs.declared.expression_error.ExpressionError.TheVariants.{InvalidRayQueryType}
use Rattle.naga_types.specs.Checks.{ok_unless, require}
use Rattle.naga_typing.specs.Resolutions.{inner_in}
use Rattle.naga_typing.specs.declared.typifier.TypeResolution.TheVariants.{Handle}

-- the address space is `Function`
abbrev pub is_function : AddressSpace → Boolean
is_function «space».Function = true
is_function «space».Private = false
is_function «space».WorkGroup = false
is_function «space».Uniform = false
is_function («space».Storage access) = false
is_function «space».Handle = false
is_function «space».Immediate = false
is_function «space».TaskPayload = false
is_function «space».RayPayload = false
is_function «space».IncomingRayPayload = false

-- `inner` is a ray query, which gives the vertices of a hit if `vertices` are wanted
abbrev pub is_ray_query : Boolean → Option TypeInner → Boolean
is_ray_query vertices (Some (RayQuery vertex_return)) = vertex_return || not vertices
is_ray_query _ _ = false

-- `inner` is a pointer to a ray query of the function, which gives the vertices of a hit if they are wanted
abbrev pub points_to_ray_query : List «Type» → Boolean → TypeInner → Boolean
points_to_ray_query types vertices (Pointer base space) =
    is_function space && is_ray_query vertices (inner_in types (Handle base))
points_to_ray_query _ _ _ = false

-- the rule of reading from a ray query: what the ray has hit, or the vertices of that
abbrev pub ray_query_rule : Boolean → ExpressionSurroundings → ℕ → Result ShaderStages ExpressionError
ray_query_rule vertices s query =
    ok_unless (require (points_to_ray_query s.«module».types vertices (form_at s query)) (InvalidRayQueryType query))
    every_stage

-- the rule of an intersection
abbrev pub ray_query_get_intersection_rule : ExpressionSurroundings → ℕ → Result ShaderStages ExpressionError
ray_query_get_intersection_rule = ray_query_rule false

-- the rule of the vertices of a hit
abbrev pub ray_query_vertex_positions_rule : ExpressionSurroundings → ℕ → Result ShaderStages ExpressionError
ray_query_vertex_positions_rule = ray_query_rule true
