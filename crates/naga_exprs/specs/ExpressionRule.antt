-- The rule of an expression of a function, by its variant.
use Rattle.std.specs.Prelude.{◌≡◌, Bool, true, false, Result, Ok}
use Rattle.naga_exprs.specs.Accesses.{IsAccessRule, access_index_rule}
use Rattle.naga_exprs.specs.Memory.{array_length_rule, cooperative_load_rule, load_rule}
use Rattle.naga_exprs.specs.RayQueries.{ray_query_get_intersection_rule, ray_query_vertex_positions_rule}
use Rattle.naga_exprs.specs.Vectors.{swizzle_rule}
use Rattle.naga_flags.specs.declared.flags.ShaderStages.{ShaderStages}
use Rattle.naga_image_exprs.specs.Loads.{image_load_rule}
use Rattle.naga_image_exprs.specs.Queries.{image_query_rule}
use Rattle.naga_image_exprs.specs.Samples.{IsImageSampleRule}
use Rattle.naga_ir.specs.declared.expression.Expression.{Expression}
use Rattle.naga_ir.specs.declared.expression.Expression.TheVariants as form
use Rattle.naga_exprs.specs.Math.{MathTyping, math_rule}
use Rattle.naga_info.specs.Results.{IsRuleResult}
use Rattle.naga_info.specs.Stages.{every_stage}
use Rattle.naga_info.specs.Surroundings.{ExpressionSurroundings}
use Rattle.naga_info.specs.declared.expression_error.ExpressionError.{ExpressionError}
use Rattle.naga_operator_exprs.specs.Binary.{IsBinaryRule}
use Rattle.naga_operator_exprs.specs.Cooperative.{cooperative_multiply_add_rule}
use Rattle.naga_operator_exprs.specs.Operators.{as_rule, derivative_rule, relational_rule, select_rule, unary_rule}
use Rattle.naga_exprs.specs.Values.{argument_rule, call_stages, composition_rule, literal_value_rule, splat_rule, workgroup_load_rule, zero_value_rule}

-- `rule` is the rule of expression `x`, by what typing `t` says of mathematical functions: the stages that
-- may use `x`, or the first error
abbrev pub IsRule : MathTyping → ExpressionSurroundings → Expression → Result ShaderStages ExpressionError → Type 0
IsRule t s (form.Literal value) rule = rule ≡ literal_value_rule s value
IsRule t s (form.Constant c) rule = rule ≡ Ok every_stage
IsRule t s (form.Override o) rule = rule ≡ Ok every_stage
IsRule t s (form.ZeroValue ty) rule = rule ≡ zero_value_rule s ty
IsRule t s (form.Compose ty components) rule = rule ≡ composition_rule s ty components
IsRule t s (form.Access base index) rule = IsAccessRule s base index rule
IsRule t s (form.AccessIndex base index) rule = rule ≡ access_index_rule s base index
IsRule t s (form.Splat size value) rule = rule ≡ splat_rule s value
IsRule t s (form.Swizzle size vector pattern) rule = rule ≡ swizzle_rule s size vector pattern
IsRule t s (form.FunctionArgument index) rule = rule ≡ argument_rule s index
IsRule t s (form.GlobalVariable v) rule = rule ≡ Ok every_stage
IsRule t s (form.LocalVariable v) rule = rule ≡ Ok every_stage
IsRule t s (form.Load pointer) rule = rule ≡ load_rule s pointer
IsRule t s (form.Unary op expr) rule = rule ≡ unary_rule s op expr
IsRule t s (form.Binary op left right) rule = IsBinaryRule s op left right rule
IsRule t s (form.Select condition accept reject) rule = rule ≡ select_rule s condition accept reject
IsRule t s (form.Derivative expr) rule = rule ≡ derivative_rule s expr
IsRule t s (form.Relational fun argument) rule = rule ≡ relational_rule s fun argument
IsRule t s (form.As expr kind convert) rule = rule ≡ as_rule s expr kind convert
IsRule t s (form.CallResult f) rule = rule ≡ Ok (call_stages s f)
IsRule t s (form.AtomicResult ty comparison) rule = rule ≡ Ok every_stage
IsRule t s (form.WorkGroupUniformLoadResult ty) rule = rule ≡ workgroup_load_rule s ty
IsRule t s (form.ArrayLength expr) rule = rule ≡ array_length_rule s expr
IsRule t s (form.ImageSample image sampler gather coordinate array_index offset level depth_ref clamp_to_edge) rule =
    IsImageSampleRule s
    (record {
      image = image;
      sampler = sampler;
      gather = gather;
      coordinate = coordinate;
      array_index = array_index;
      offset = offset;
      level = level;
      depth_ref = depth_ref;
      clamp_to_edge = clamp_to_edge;
    })
    rule
IsRule t s (form.ImageLoad image coordinate array_index sample level) rule =
    rule ≡ image_load_rule s image coordinate array_index sample level
IsRule t s (form.ImageQuery image query) rule = rule ≡ image_query_rule s image query
IsRule t s (form.Math fun arg arg1 arg2 arg3) rule = rule ≡ math_rule t s fun arg arg1 arg2 arg3
IsRule t s form.RayQueryProceedResult rule = rule ≡ Ok every_stage
IsRule t s (form.RayQueryGetIntersection query committed) rule = rule ≡ ray_query_get_intersection_rule s query
IsRule t s (form.RayQueryVertexPositions query committed) rule = rule ≡ ray_query_vertex_positions_rule s query
IsRule t s form.SubgroupBallotResult rule = rule ≡ Ok s.subgroup_stages
IsRule t s (form.SubgroupOperationResult ty) rule = rule ≡ Ok s.subgroup_stages
IsRule t s (form.CooperativeLoad shape pointer stride) rule = rule ≡ cooperative_load_rule s pointer
IsRule t s (form.CooperativeMultiplyAdd a b c) rule = rule ≡ cooperative_multiply_add_rule s a b c

-- what a call returns for an expression: what the rule says, out of memory aside
abbrev pub IsExpressionResult : MathTyping → ExpressionSurroundings → Expression → Result ShaderStages ExpressionError
    → Type 0
IsExpressionResult t s x result =
    (rule : Result ShaderStages ExpressionError) × IsRule t s x rule × IsRuleResult rule result

-- whether an expression is of a variant that functions of shaders mostly consist of; the rules of these let
-- every stage use it, or refuse it
abbrev pub is_frequent : Expression → Bool
is_frequent (form.Literal value) = true
is_frequent (form.Constant c) = true
is_frequent (form.Override o) = true
is_frequent (form.ZeroValue ty) = true
is_frequent (form.Compose ty components) = true
is_frequent (form.Access base index) = true
is_frequent (form.AccessIndex base index) = true
is_frequent (form.Splat size value) = true
is_frequent (form.Swizzle size vector pattern) = true
is_frequent (form.FunctionArgument index) = true
is_frequent (form.GlobalVariable v) = true
is_frequent (form.LocalVariable v) = true
is_frequent (form.Load pointer) = true
is_frequent (form.Unary op expr) = true
is_frequent (form.Binary op left right) = true
is_frequent (form.Select condition accept reject) = true
is_frequent (form.As expr kind convert) = true
is_frequent (form.Math fun arg arg1 arg2 arg3) = true
is_frequent _ = false
