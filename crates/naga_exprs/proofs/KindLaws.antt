-- A rule that needs no kind of an operand is the same whatever the kinds are.
use Rattle.std.proofs.Common.{◌≡◌, ℕ, List, [], None, Some, Result}
use Rattle.naga_exprs.specs.ExpressionRule.{IsRule}
use Rattle.naga_exprs.specs.Math.{MathTyping}
use Rattle.naga_flags.specs.declared.flags.ShaderStages.{ShaderStages}
use Rattle.naga_info.specs.ModuleInfo.{ModuleInfoLists}
use Rattle.naga_info.specs.Surroundings.{ExpressionSurroundings, kind_operands}
use Rattle.naga_info.specs.declared.expression_error.ExpressionError.{ExpressionError}
use Rattle.naga_ir.specs.declared.expression.BinaryOperator.{BinaryOperator}
use Rattle.naga_ir.specs.declared.expression.Expression.{Expression}
use Rattle.naga_ir.specs.declared.expression.Expression.TheVariants as form
use Rattle.naga_operator_exprs.specs.Binary.{IsBinaryRule, accepted, forbidden_constant, wrong_operands}
use Rattle.naga_typing.specs.declared.expression_kind.ExpressionKind.{ExpressionKind}

-- the rule of an operator on two values depends on the module, the function and the types of its expressions alone
pub binary-alike : (s : ExpressionSurroundings) (capabilities : ℕ) (stages : ShaderStages) (infos : ModuleInfoLists) (kinds : List ExpressionKind) (op : BinaryOperator) (left right : ℕ) (rule : Result ShaderStages ExpressionError)
    → IsBinaryRule s op left right rule → IsBinaryRule (record s { capabilities = capabilities; subgroup_stages = stages; infos = infos; kinds = kinds }) op left right rule
binary-alike s capabilities stages infos kinds op left right _ (wrong_operands misfit) = wrong_operands misfit
binary-alike s capabilities stages infos kinds op left right _ (forbidden_constant forbidden fits held) = forbidden_constant forbidden fits held
binary-alike s capabilities stages infos kinds op left right _ (accepted fits none) = accepted fits none

module _ (s : ExpressionSurroundings) (k : List ExpressionKind) where
  pub any_kinds : (t : MathTyping) (x : Expression) (rule : Result ShaderStages ExpressionError) → kind_operands x ≡ [] → IsRule t s x rule → IsRule t (record s { kinds = k }) x rule
  any_kinds t (form.Literal value) rule none h = h
  any_kinds t (form.Constant c) rule none h = h
  any_kinds t (form.Override o) rule none h = h
  any_kinds t (form.ZeroValue ty) rule none h = h
  any_kinds t (form.Compose ty components) rule none h = h
  any_kinds t (form.Access base index) rule none h = h
  any_kinds t (form.AccessIndex base index) rule none h = h
  any_kinds t (form.Splat size value) rule none h = h
  any_kinds t (form.Swizzle size vector pattern) rule none h = h
  any_kinds t (form.FunctionArgument index) rule none h = h
  any_kinds t (form.GlobalVariable v) rule none h = h
  any_kinds t (form.LocalVariable v) rule none h = h
  any_kinds t (form.Load pointer) rule none h = h
  any_kinds t (form.Unary op expr) rule none h = h
  any_kinds t (form.Binary op left right) rule none h = binary-alike s s.capabilities s.subgroup_stages s.infos k op left right rule h
  any_kinds t (form.Select condition accept reject) rule none h = h
  any_kinds t (form.Derivative expr) rule none h = h
  any_kinds t (form.Relational fun argument) rule none h = h
  any_kinds t (form.As expr kind convert) rule none h = h
  any_kinds t (form.CallResult f) rule none h = h
  any_kinds t (form.AtomicResult ty comparison) rule none h = h
  any_kinds t (form.WorkGroupUniformLoadResult ty) rule none h = h
  any_kinds t (form.ArrayLength expr) rule none h = h
  any_kinds t (form.ImageSample image sampler gather coordinate array_index None level depth_ref clamp_to_edge) rule none h = h
  any_kinds t (form.ImageSample image sampler gather coordinate array_index (Some o) level depth_ref clamp_to_edge) rule none h = absurd (cc none)
  any_kinds t (form.ImageLoad image coordinate array_index sample level) rule none h = h
  any_kinds t (form.ImageQuery image query) rule none h = h
  any_kinds t (form.Math fun arg arg1 arg2 arg3) rule none h = h
  any_kinds t form.RayQueryProceedResult rule none h = h
  any_kinds t (form.RayQueryGetIntersection query committed) rule none h = h
  any_kinds t (form.RayQueryVertexPositions query committed) rule none h = h
  any_kinds t form.SubgroupBallotResult rule none h = h
  any_kinds t (form.SubgroupOperationResult ty) rule none h = h
  any_kinds t (form.CooperativeLoad shape pointer stride) rule none h = h
  any_kinds t (form.CooperativeMultiplyAdd a b c) rule none h = h
