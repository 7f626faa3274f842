use Rattle.std.proofs.Common.{◌≡◌, ◌<◌, ◌⊎◌, All, Bool, List, Ok, Result, ap, inl, inr, length, refl, subst, sym, ℕ}
use Rattle.naga_flags.specs.declared.flags.ShaderStages.{ShaderStages}
use Rattle.naga_ir.specs.declared.expression.Expression.{Expression}
use Rattle.naga_exprs.specs.ExpressionRule.{IsExpressionResult, IsRule}
use Rattle.naga_info.specs.declared.expression_error.ExpressionError.{ExpressionError}
use Rattle.naga_image_exprs.specs.Samples.{IsImageSampleResult, expression_of}
use Rattle.naga_image_exprs.specs.declared.sample.Sample.{Sample}
use Rattle.naga_exprs.proofs.KnownOperands.{components_typed, composed_type, condition_of_select, index_of_access, left_of_multiply_add, of_array_length, of_cooperative_load, of_intersection, of_load, of_vertices, ready_as, reject_of_select, right_of_multiply_add, summand_of_multiply_add, there, typed, workgroup_load_type, zero_type}
use Rattle.naga_exprs.proofs.expression.validate_expression.Goals as goal
use Rattle.naga_ir.specs.declared.expression.Expression.TheVariants as form
use Rattle.naga_exprs.specs.Math.{MathTyping}
use Rattle.naga_info.specs.Stages.{every_stage}
use Rattle.naga_info.specs.Surroundings.{ExpressionSurroundings, surroundings}
use Rattle.naga_typing.proofs.FormOperands.{accepted_of_select, left_of_binary, of_access, of_access_index, of_as, of_derivative, of_relational, of_splat, of_swizzle, of_unary, right_of_binary}

pub validate_access-requires-clause-base : goal.validate_access-requires-clause-base
validate_access-requires-clause-base g c = typed (surroundings c.args.context) c.requires.ready.0 c.args.expression.now c.requires.ready.1 _ (of_access c.args.expression.now c.in-Access.base c.in-Access.index c.in-Access.is)

pub validate_access-requires-clause-index : goal.validate_access-requires-clause-index
validate_access-requires-clause-index g c = typed (surroundings c.args.context) c.requires.ready.0 c.args.expression.now c.requires.ready.1 _ (index_of_access c.args.expression.now c.in-Access.base c.in-Access.index c.in-Access.is)

pub validate_access-requires-clause-exists : goal.validate_access-requires-clause-exists
validate_access-requires-clause-exists g c = there (surroundings c.args.context) c.requires.ready.0 c.args.expression.now c.requires.ready.1 _ (index_of_access c.args.expression.now c.in-Access.base c.in-Access.index c.in-Access.is)

pub validate_access_index-requires-clause-base : goal.validate_access_index-requires-clause-base
validate_access_index-requires-clause-base g c = typed (surroundings c.args.context) c.requires.ready.0 c.args.expression.now c.requires.ready.1 _ (of_access_index c.args.expression.now c.in-AccessIndex.base c.in-AccessIndex.index c.in-AccessIndex.is)

pub validate_splat-requires-clause-value : goal.validate_splat-requires-clause-value
validate_splat-requires-clause-value g c = typed (surroundings c.args.context) c.requires.ready.0 c.args.expression.now c.requires.ready.1 _ (of_splat c.args.expression.now c.in-Splat.size c.in-Splat.value c.in-Splat.is)

pub validate_swizzle-requires-clause-vector : goal.validate_swizzle-requires-clause-vector
validate_swizzle-requires-clause-vector g c = typed (surroundings c.args.context) c.requires.ready.0 c.args.expression.now c.requires.ready.1 _ (of_swizzle c.args.expression.now c.in-Swizzle.size c.in-Swizzle.vector c.in-Swizzle.pattern c.in-Swizzle.is)

pub validate_load-requires-clause-pointer : goal.validate_load-requires-clause-pointer
validate_load-requires-clause-pointer g c = typed (surroundings c.args.context) c.requires.ready.0 c.args.expression.now c.requires.ready.1 _ (of_load c.args.expression.now c.in-Load.pointer c.in-Load.is)

pub validate_unary-requires-clause-expr : goal.validate_unary-requires-clause-expr
validate_unary-requires-clause-expr g c = typed (surroundings c.args.context) c.requires.ready.0 c.args.expression.now c.requires.ready.1 _ (of_unary c.args.expression.now c.in-Unary.op c.in-Unary.expr c.in-Unary.is)

pub validate_binary-requires-clause-left : goal.validate_binary-requires-clause-left
validate_binary-requires-clause-left g c = typed (surroundings c.args.context) c.requires.ready.0 c.args.expression.now c.requires.ready.1 _ (left_of_binary c.args.expression.now c.in-Binary.op c.in-Binary.left c.in-Binary.right c.in-Binary.is)

pub validate_binary-requires-clause-right : goal.validate_binary-requires-clause-right
validate_binary-requires-clause-right g c = typed (surroundings c.args.context) c.requires.ready.0 c.args.expression.now c.requires.ready.1 _ (right_of_binary c.args.expression.now c.in-Binary.op c.in-Binary.left c.in-Binary.right c.in-Binary.is)

pub validate_binary-requires-clause-exists : goal.validate_binary-requires-clause-exists
validate_binary-requires-clause-exists g c = there (surroundings c.args.context) c.requires.ready.0 c.args.expression.now c.requires.ready.1 _ (right_of_binary c.args.expression.now c.in-Binary.op c.in-Binary.left c.in-Binary.right c.in-Binary.is)

pub validate_select-requires-clause-condition : goal.validate_select-requires-clause-condition
validate_select-requires-clause-condition g c = typed (surroundings c.args.context) c.requires.ready.0 c.args.expression.now c.requires.ready.1 _ (condition_of_select c.args.expression.now c.in-Select.condition c.in-Select.accept c.in-Select.reject c.in-Select.is)

pub validate_select-requires-clause-accept : goal.validate_select-requires-clause-accept
validate_select-requires-clause-accept g c = typed (surroundings c.args.context) c.requires.ready.0 c.args.expression.now c.requires.ready.1 _ (accepted_of_select c.args.expression.now c.in-Select.condition c.in-Select.accept c.in-Select.reject c.in-Select.is)

pub validate_select-requires-clause-reject : goal.validate_select-requires-clause-reject
validate_select-requires-clause-reject g c = typed (surroundings c.args.context) c.requires.ready.0 c.args.expression.now c.requires.ready.1 _ (reject_of_select c.args.expression.now c.in-Select.condition c.in-Select.accept c.in-Select.reject c.in-Select.is)

pub validate_derivative-requires-clause-expr : goal.validate_derivative-requires-clause-expr
validate_derivative-requires-clause-expr g c = typed (surroundings c.args.context) c.requires.ready.0 c.args.expression.now c.requires.ready.1 _ (of_derivative c.args.expression.now c.in-Derivative.expr c.in-Derivative.is)

pub validate_relational-requires-clause-argument : goal.validate_relational-requires-clause-argument
validate_relational-requires-clause-argument g c = typed (surroundings c.args.context) c.requires.ready.0 c.args.expression.now c.requires.ready.1 _ (of_relational c.args.expression.now c.in-Relational.fun c.in-Relational.argument c.in-Relational.is)

pub validate_as-requires-clause-expr : goal.validate_as-requires-clause-expr
validate_as-requires-clause-expr g c = typed (surroundings c.args.context) c.requires.ready.0 c.args.expression.now c.requires.ready.1 _ (of_as c.args.expression.now c.in-As.expr c.in-As.kind c.in-As.convert c.in-As.is)

pub validate_array_length-requires-clause-array : goal.validate_array_length-requires-clause-array
validate_array_length-requires-clause-array g c = typed (surroundings c.args.context) c.requires.ready.0 c.args.expression.now c.requires.ready.1 _ (of_array_length c.args.expression.now c.in-ArrayLength.array c.in-ArrayLength.is)

pub validate_zero_value-requires-clause-exists : goal.validate_zero_value-requires-clause-exists
validate_zero_value-requires-clause-exists g c = zero_type (surroundings c.args.context) c.requires.ready.0 c.args.expression.now c.requires.ready.1 c.in-ZeroValue.ty c.in-ZeroValue.is

pub validate_composition-requires-clause-exists : goal.validate_composition-requires-clause-exists
validate_composition-requires-clause-exists g c = composed_type (surroundings c.args.context) c.requires.ready.0 c.args.expression.now c.requires.ready.1 c.in-Compose.ty c.in-Compose.components c.in-Compose.is

pub validate_workgroup_uniform_load_result-requires-clause-exists : goal.validate_workgroup_uniform_load_result-requires-clause-exists
validate_workgroup_uniform_load_result-requires-clause-exists g c = workgroup_load_type (surroundings c.args.context) c.requires.ready.0 c.args.expression.now c.requires.ready.1 c.in-WorkGroupUniformLoadResult.ty c.in-WorkGroupUniformLoadResult.is

pub validate_ray_query_get_intersection-requires-clause-query : goal.validate_ray_query_get_intersection-requires-clause-query
validate_ray_query_get_intersection-requires-clause-query g c = typed (surroundings c.args.context) c.requires.ready.0 c.args.expression.now c.requires.ready.1 _ (of_intersection c.args.expression.now c.in-RayQueryGetIntersection.query c.in-RayQueryGetIntersection.committed c.in-RayQueryGetIntersection.is)

pub validate_ray_query_vertex_positions-requires-clause-query : goal.validate_ray_query_vertex_positions-requires-clause-query
validate_ray_query_vertex_positions-requires-clause-query g c = typed (surroundings c.args.context) c.requires.ready.0 c.args.expression.now c.requires.ready.1 _ (of_vertices c.args.expression.now c.in-RayQueryVertexPositions.query c.in-RayQueryVertexPositions.committed c.in-RayQueryVertexPositions.is)

pub validate_cooperative_load-requires-clause-pointer : goal.validate_cooperative_load-requires-clause-pointer
validate_cooperative_load-requires-clause-pointer g c = typed (surroundings c.args.context) c.requires.ready.0 c.args.expression.now c.requires.ready.1 _ (of_cooperative_load c.args.expression.now c.in-CooperativeLoad.shape c.in-CooperativeLoad.pointer c.in-CooperativeLoad.stride c.in-CooperativeLoad.is)

pub validate_cooperative_multiply_add-requires-clause-left : goal.validate_cooperative_multiply_add-requires-clause-left
validate_cooperative_multiply_add-requires-clause-left g c = typed (surroundings c.args.context) c.requires.ready.0 c.args.expression.now c.requires.ready.1 _ (left_of_multiply_add c.args.expression.now c.in-CooperativeMultiplyAdd.a c.in-CooperativeMultiplyAdd.b c.in-CooperativeMultiplyAdd.c c.in-CooperativeMultiplyAdd.is)

pub validate_cooperative_multiply_add-requires-clause-right : goal.validate_cooperative_multiply_add-requires-clause-right
validate_cooperative_multiply_add-requires-clause-right g c = typed (surroundings c.args.context) c.requires.ready.0 c.args.expression.now c.requires.ready.1 _ (right_of_multiply_add c.args.expression.now c.in-CooperativeMultiplyAdd.a c.in-CooperativeMultiplyAdd.b c.in-CooperativeMultiplyAdd.c c.in-CooperativeMultiplyAdd.is)

pub validate_cooperative_multiply_add-requires-clause-summand : goal.validate_cooperative_multiply_add-requires-clause-summand
validate_cooperative_multiply_add-requires-clause-summand g c = typed (surroundings c.args.context) c.requires.ready.0 c.args.expression.now c.requires.ready.1 _ (summand_of_multiply_add c.args.expression.now c.in-CooperativeMultiplyAdd.a c.in-CooperativeMultiplyAdd.b c.in-CooperativeMultiplyAdd.c c.in-CooperativeMultiplyAdd.is)

module _ (t : MathTyping) (s : ExpressionSurroundings) (x : Expression) (result : Result ShaderStages ExpressionError) where
  -- what is meant is returned as it is
  as_meant : IsRule t s x result → IsExpressionResult t s x result
  as_meant h = (result, h, inl refl)

  -- the rule of a variant is the rule of an expression of that variant
  of_form : (y : Expression) → x ≡ y → IsRule t s y result → IsRule t s x result
  of_form y is h = subst (λ x. IsRule t s x result) (sym is) h

  -- every stage may use a constant, an override, a variable, the result of an atomic
  -- operation, and whether a ray goes on
  every_stage_meant : ((c : ℕ) × (x ≡ form.Constant c)) ⊎ (((o : ℕ) × (x ≡ form.Override o)) ⊎ (((v : ℕ) × (x ≡ form.GlobalVariable v)) ⊎ (((v : ℕ) × (x ≡ form.LocalVariable v)) ⊎ (((ty : ℕ) × (comparison : Bool) × (x ≡ form.AtomicResult ty comparison)) ⊎ (x ≡ form.RayQueryProceedResult)))))
      → result ≡ Ok every_stage → IsRule t s x result
  every_stage_meant (inl (c, e)) h = of_form _ e h
  every_stage_meant (inr (inl (o, e))) h = of_form _ e h
  every_stage_meant (inr (inr (inl (v, e)))) h = of_form _ e h
  every_stage_meant (inr (inr (inr (inl (v, e))))) h = of_form _ e h
  every_stage_meant (inr (inr (inr (inr (inl (ty, comparison, e)))))) h = of_form _ e h
  every_stage_meant (inr (inr (inr (inr (inr e))))) h = of_form _ e h

  -- what is returned for a sample is returned for its expression
  as_sampled : (sample : Sample) → x ≡ expression_of sample → IsImageSampleResult s sample result → IsExpressionResult t s x result
  as_sampled sample is (meant, means, returned) = (meant, subst (λ x. IsRule t s x meant) (sym is) means, returned)

  -- the stages that may use subgroups may use the results of their operations
  subgroup_meant : (x ≡ form.SubgroupBallotResult) ⊎ ((ty : ℕ) × (x ≡ form.SubgroupOperationResult ty)) → result ≡ Ok s.subgroup_stages → IsRule t s x result
  subgroup_meant (inl e) h = of_form _ e h
  subgroup_meant (inr (ty, e)) h = of_form _ e h

pub returns-in-CallResult : goal.returns-in-CallResult
returns-in-CallResult g c =
    let t : MathTyping = record { accepts = g.T.Typing.accepts_types c.args.typing.now; least_arguments = g.T.Typing.least_arguments c.args.typing.now } in
    let s = surroundings c.args.context in
    let result : Result ShaderStages ExpressionError = Ok c.validate_call_result.result in
    as_meant t s c.args.expression.now result (of_form t s c.args.expression.now result _ c.in-CallResult.is (ap Ok c.validate_call_result.ensures))

pub returns-in-ImageSample : goal.returns-in-ImageSample
returns-in-ImageSample g c =
    let t : MathTyping = record { accepts = g.T.Typing.accepts_types c.args.typing.now; least_arguments = g.T.Typing.least_arguments c.args.typing.now } in
    as_sampled t (surroundings c.args.context) c.args.expression.now c.validate_image_sample.result _ c.in-ImageSample.is c.validate_image_sample.ensures

pub returns-in-Constant : goal.returns-in-Constant
returns-in-Constant g c =
    let t : MathTyping = record { accepts = g.T.Typing.accepts_types c.args.typing.now; least_arguments = g.T.Typing.least_arguments c.args.typing.now } in
    let s = surroundings c.args.context in
    let result : Result ShaderStages ExpressionError = Ok c.every_stage.result in
    as_meant t s c.args.expression.now result (every_stage_meant t s c.args.expression.now result c.in-Constant.is (ap Ok c.every_stage.ensures))

pub returns-in-SubgroupBallotResult : goal.returns-in-SubgroupBallotResult
returns-in-SubgroupBallotResult g c =
    let t : MathTyping = record { accepts = g.T.Typing.accepts_types c.args.typing.now; least_arguments = g.T.Typing.least_arguments c.args.typing.now } in
    let s = surroundings c.args.context in
    let result : Result ShaderStages ExpressionError = Ok s.subgroup_stages in
    as_meant t s c.args.expression.now result (subgroup_meant t s c.args.expression.now result c.in-SubgroupBallotResult.is refl)

pub validate_composition-requires-clause-components :
    goal.validate_composition-requires-clause-components
validate_composition-requires-clause-components g c =
    let bound = length c.args.context.info.now.types in
    subst (λ (os : List ℕ). All (λ o. o < bound) os) (sym c.as_slice.ensures)
    (components_typed (surroundings c.args.context) c.requires.ready.0 c.args.expression.now c.requires.ready.1 c.in-Compose.ty c.in-Compose.components c.in-Compose.is)

pub validate_image_sample-requires : goal.validate_image_sample-requires
validate_image_sample-requires g c = ready_as _ _ _ c.in-ImageSample.is c.requires.ready

pub validate_image_load-requires : goal.validate_image_load-requires
validate_image_load-requires g c = ready_as _ _ _ c.in-ImageLoad.is c.requires.ready

pub validate_image_query-requires : goal.validate_image_query-requires
validate_image_query-requires g c = ready_as _ _ _ c.in-ImageQuery.is c.requires.ready

pub validate_math-requires : goal.validate_math-requires
validate_math-requires g c = ready_as _ _ _ c.in-Math.is c.requires.ready
