-- Expressions that are accepted under some capabilities are accepted under more, and no stage loses them.
use Rattle.std.proofs.Common.{◌≡◌, ℕ, Bool, true, false, List, [], ◌∷◌, Option, Some, None, Result, Ok, Err, ap, refl, subst, sym}
use Rattle.std.specs.Bool.{if◌then◌else◌}
use Rattle.std.specs.Prelude.{IsTrue, unwrap_or}
use Rattle.naga_exprs.proofs.KindLaws.{binary-alike}
use Rattle.naga_exprs.specs.ConstExpression.{ConstSurroundings, const_expression_rule, literal_error, literal_rule, not_const_error, of_width, refused_inside}
use Rattle.naga_exprs.specs.ExpressionRule.{IsRule}
use Rattle.naga_exprs.specs.Math.{MathTyping, float16_error, keeps_float16, math_checks}
use Rattle.naga_exprs.specs.MoreCapabilities.{AllowsMore, AreUsableByMore}
use Rattle.naga_exprs.specs.Values.{call_stages}
use Rattle.naga_flags.proofs.HasLemmas.{has-itself, has-trans}
use Rattle.naga_flags.proofs.MoreWidths.{good-width-more}
use Rattle.naga_flags.specs.Bits.{SHADER_FLOAT16_IN_FLOAT32}
use Rattle.naga_flags.specs.Flags.{has}
use Rattle.naga_flags.specs.Width.{immediates_of, is_good_width, width_error}
use Rattle.naga_flags.specs.declared.flags.ShaderStages.{ShaderStages}
use Rattle.naga_flags.specs.declared.width.ImmediateError.{ImmediateError}
use Rattle.naga_flags.specs.declared.width.WidthError.{WidthError}
use Rattle.naga_info.specs.Stages.{every_stage}
use Rattle.naga_info.specs.Surroundings.{ExpressionSurroundings, form_at}
use Rattle.naga_info.specs.declared.const_expression_error.LiteralError.{LiteralError}
use Rattle.naga_info.specs.declared.const_expression_error.ConstExpressionError.TheVariants as const_refusal
use Rattle.naga_info.specs.declared.expression_error.ExpressionError.{ExpressionError}
use Rattle.naga_info.specs.declared.expression_error.ExpressionError.TheVariants as refusal
use Rattle.naga_info.specs.declared.module_info.FunctionInfo.{FunctionInfo}
use Rattle.naga_ir.specs.Literals.{literal_scalar}
use Rattle.naga_ir.specs.declared.expression.Expression.{Expression}
use Rattle.naga_ir.specs.declared.expression.Expression.TheVariants as form
use Rattle.naga_ir.specs.declared.expression.Literal.{Literal}
use Rattle.naga_ir.specs.declared.expression.MathFunction.{MathFunction}
use Rattle.naga_ir.specs.declared.types.Scalar.{Scalar as ScalarType}
use Rattle.naga_ir.specs.declared.types.ScalarKind.{ScalarKind}
use Rattle.naga_operator_exprs.specs.Operators.{can_cast, cast_scalar}
use Rattle.naga_types.proofs.WeakerConditions.{Weaker, first-weaker, granted-too, passed-too, require-weaker, when-weaker}
use Rattle.naga_types.specs.Checks.{first, ok_unless, require}

-- a width that is allowed more often
width-weaker : {E : Type 0} (wrap : LiteralError → E) (less more : Bool) (immediates : Result (Unit {0}) ImmediateError) (error : WidthError) → (less ≡ true → more ≡ true)
    → Weaker (refused_inside wrap (of_width (if less then Ok immediates else Err error))) (refused_inside wrap (of_width (if more then Ok immediates else Err error)))
width-weaker wrap true more immediates error holds none = ap (λ b. refused_inside wrap (of_width (if b then Ok immediates else Err error))) (holds refl)
width-weaker wrap false more immediates error holds none = cc none

module _ (less more : ℕ) (contained : has more less ≡ true) where
  literal-more : {E : Type 0} (wrap : LiteralError → E) (value : Literal) → Weaker (refused_inside wrap (literal_rule less value)) (refused_inside wrap (literal_rule more value))
  literal-more wrap value =
      let scalar = literal_scalar value in
      width-weaker wrap (is_good_width less scalar) (is_good_width more scalar) (immediates_of scalar) (width_error scalar) (good-width-more less more contained scalar)

  cast-more : (kind : ScalarKind) (width : Option ℕ) (scalar : Option ScalarType) → can_cast less kind width scalar ≡ true → can_cast more kind width scalar ≡ true
  cast-more kind width (Some scalar) h = good-width-more less more contained (record { kind = kind; width = unwrap_or width scalar.width }) h
  cast-more kind width None h = h

  float16-more : (fun : MathFunction) → Weaker (float16_error less fun) (float16_error more fun)
  float16-more fun = when-weaker (keeps_float16 fun) _ _ (require-weaker (has less SHADER_FLOAT16_IN_FLOAT32) (has more SHADER_FLOAT16_IN_FLOAT32) _ (has-trans more less SHADER_FLOAT16_IN_FLOAT32 contained))

-- a global expression is accepted under more capabilities too
pub constant-more : (s : ConstSurroundings) (more : ℕ) → has more s.capabilities ≡ true → (e : ℕ) (x : Expression) → const_expression_rule s e x ≡ Ok tt → const_expression_rule (record s { capabilities = more }) e x ≡ Ok tt
constant-more s more contained e (form.Literal value) h =
    let fixed = not_const_error s e in
    passed-too (fixed ∷ literal_error s value ∷ []) (fixed ∷ literal_error (record s { capabilities = more }) value ∷ []) tt tt (λ kept. kept, (literal-more s.capabilities more contained const_refusal.Literal value, tt)) h
constant-more s more contained e _ h = h

-- a rule that allows some stages allows them under more capabilities
abbrev Kept : MathTyping → ExpressionSurroundings → Expression → ShaderStages → Type 0
Kept t by x allowed = (stages : ShaderStages) × IsRule t by x (Ok stages) × (has stages.0 allowed.0 ≡ true)

module _ (t : MathTyping) (s : ExpressionSurroundings) (more : ℕ) (stages : ShaderStages) (functions entry_points : List FunctionInfo)
    (capabilities : has more s.capabilities ≡ true) (subgroups : has stages.0 s.subgroup_stages.0 ≡ true) (known : AreUsableByMore s.infos.functions functions) where
  abbrev by_more : ExpressionSurroundings
  by_more = record s { capabilities = more; subgroup_stages = stages; infos = record s.infos { functions = functions; entry_points = entry_points } }

  same-stages : (x : Expression) (allowed : ShaderStages) → IsRule t by_more x (Ok allowed) → Kept t by_more x allowed
  same-stages x allowed h = (allowed, h, has-itself allowed.0)

  granted-more : (strict lax : Option ExpressionError) (allowed : ShaderStages) → Weaker strict lax → Ok allowed ≡ ok_unless strict every_stage → Ok allowed ≡ ok_unless lax every_stage
  granted-more strict lax allowed weaker h = sym (granted-too strict lax every_stage allowed weaker (sym h))

  contained-in : (allowed fewer others : ShaderStages) → (let rule : Result ShaderStages ExpressionError = Ok allowed in rule ≡ Ok fewer) → has others.0 fewer.0 ≡ true → has others.0 allowed.0 ≡ true
  contained-in allowed fewer others is contained = let same : allowed ≡ fewer = cc is in subst (λ (found : ShaderStages). has others.0 found.0 ≡ true) (sym same) contained

  rule-more : (x : Expression) (allowed : ShaderStages) → IsRule t s x (Ok allowed) → Kept t by_more x allowed
  rule-more (form.Literal value) allowed h = same-stages (form.Literal value) allowed
      (granted-more (refused_inside refusal.Literal (literal_rule s.capabilities value)) (refused_inside refusal.Literal (literal_rule more value)) allowed (literal-more s.capabilities more capabilities refusal.Literal value) h)
  rule-more (form.Constant c) allowed h = same-stages (form.Constant c) allowed h
  rule-more (form.Override o) allowed h = same-stages (form.Override o) allowed h
  rule-more (form.ZeroValue ty) allowed h = same-stages (form.ZeroValue ty) allowed h
  rule-more (form.Compose ty components) allowed h = same-stages (form.Compose ty components) allowed h
  rule-more (form.Access base index) allowed h = same-stages (form.Access base index) allowed h
  rule-more (form.AccessIndex base index) allowed h = same-stages (form.AccessIndex base index) allowed h
  rule-more (form.Splat size value) allowed h = same-stages (form.Splat size value) allowed h
  rule-more (form.Swizzle size vector pattern) allowed h = same-stages (form.Swizzle size vector pattern) allowed h
  rule-more (form.FunctionArgument index) allowed h = same-stages (form.FunctionArgument index) allowed h
  rule-more (form.GlobalVariable v) allowed h = same-stages (form.GlobalVariable v) allowed h
  rule-more (form.LocalVariable v) allowed h = same-stages (form.LocalVariable v) allowed h
  rule-more (form.Load pointer) allowed h = same-stages (form.Load pointer) allowed h
  rule-more (form.Unary op expr) allowed h = same-stages (form.Unary op expr) allowed h
  rule-more (form.Binary op left right) allowed h = same-stages (form.Binary op left right) allowed (binary-alike s more stages by_more.infos s.kinds op left right (Ok allowed) h)
  rule-more (form.Select condition accept reject) allowed h = same-stages (form.Select condition accept reject) allowed h
  rule-more (form.Derivative expr) allowed h = same-stages (form.Derivative expr) allowed h
  rule-more (form.Relational fun argument) allowed h = same-stages (form.Relational fun argument) allowed h
  rule-more (form.As expr kind convert) allowed h =
      let scalar = cast_scalar (form_at s expr) in
      let can = can_cast s.capabilities kind convert scalar in
      let can_more = can_cast more kind convert scalar in
      same-stages (form.As expr kind convert) allowed
      (granted-more (require can refusal.InvalidCastArgument) (require can_more refusal.InvalidCastArgument) allowed (require-weaker can can_more _ (cast-more s.capabilities more capabilities kind convert scalar)) h)
  rule-more (form.CallResult f) allowed h = (call_stages by_more f, refl, contained-in allowed (call_stages s f) (call_stages by_more f) h (known f))
  rule-more (form.AtomicResult ty comparison) allowed h = same-stages (form.AtomicResult ty comparison) allowed h
  rule-more (form.WorkGroupUniformLoadResult ty) allowed h = same-stages (form.WorkGroupUniformLoadResult ty) allowed h
  rule-more (form.ArrayLength expr) allowed h = same-stages (form.ArrayLength expr) allowed h
  rule-more (form.ImageSample image sampler gather coordinate array_index offset level depth_ref clamp_to_edge) allowed h = same-stages (form.ImageSample image sampler gather coordinate array_index offset level depth_ref clamp_to_edge) allowed h
  rule-more (form.ImageLoad image coordinate array_index sample level) allowed h = same-stages (form.ImageLoad image coordinate array_index sample level) allowed h
  rule-more (form.ImageQuery image query) allowed h = same-stages (form.ImageQuery image query) allowed h
  rule-more (form.Math fun arg arg1 arg2 arg3) allowed h =
      let checks = math_checks t s fun arg arg1 arg2 arg3 in
      let by_more_checks = math_checks t by_more fun arg arg1 arg2 arg3 in
      same-stages (form.Math fun arg arg1 arg2 arg3) allowed
      (granted-more (first checks) (first by_more_checks) allowed
      (first-weaker checks by_more_checks (float16-more s.capabilities more capabilities fun, (λ kept. kept, (λ kept. kept, (λ kept. kept, tt))))) h)
  rule-more form.RayQueryProceedResult allowed h = same-stages form.RayQueryProceedResult allowed h
  rule-more (form.RayQueryGetIntersection query committed) allowed h = same-stages (form.RayQueryGetIntersection query committed) allowed h
  rule-more (form.RayQueryVertexPositions query committed) allowed h = same-stages (form.RayQueryVertexPositions query committed) allowed h
  rule-more form.SubgroupBallotResult allowed h = (stages, refl, contained-in allowed s.subgroup_stages stages h subgroups)
  rule-more (form.SubgroupOperationResult ty) allowed h = (stages, refl, contained-in allowed s.subgroup_stages stages h subgroups)
  rule-more (form.CooperativeLoad shape pointer stride) allowed h = same-stages (form.CooperativeLoad shape pointer stride) allowed h
  rule-more (form.CooperativeMultiplyAdd a b c) allowed h = same-stages (form.CooperativeMultiplyAdd a b c) allowed h

-- the rule of an expression allows no fewer stages where more is allowed
pub expression-more : (t : MathTyping) (less more : ExpressionSurroundings) → AllowsMore less more → (x : Expression) (allowed : ShaderStages) → IsRule t less x (Ok allowed)
    → (stages : ShaderStages) × IsRule t more x (Ok stages) × IsTrue (has stages.0 allowed.0)
expression-more t less more h x allowed rule =
    subst (λ (s : ExpressionSurroundings). Kept t s x allowed) (sym h.others)
    (rule-more t less more.capabilities more.subgroup_stages more.infos.functions more.infos.entry_points h.capabilities h.subgroup_stages h.functions x allowed rule)
