-- The operands of an expression whose kinds its rule needs are among its operands.
use Rattle.std.proofs.Common.{ℕ, [], ◌∷◌, All, option_to_list}
use Rattle.std.proofs.lemmas.List.Elements.{All-nil}
use Rattle.naga_arena.proofs.Elements.{all-left, all-right}
use Rattle.naga_info.specs.Surroundings.{kind_operands}
use Rattle.naga_ir.specs.References.{operands}
use Rattle.naga_ir.specs.declared.expression.Expression.{Expression}
use Rattle.naga_ir.specs.declared.expression.Expression.TheVariants as form

-- what holds of all operands holds of these
pub of_kind_operands : (P : ℕ → Type 0) (x : Expression) → All P (operands x) → All P (kind_operands x)
unfolding operands
of_kind_operands P (form.Literal value) all = All-nil P
of_kind_operands P (form.Constant c) all = All-nil P
of_kind_operands P (form.Override o) all = All-nil P
of_kind_operands P (form.ZeroValue ty) all = All-nil P
of_kind_operands P (form.Compose ty components) all = All-nil P
of_kind_operands P (form.Access base index) all = All-nil P
of_kind_operands P (form.AccessIndex base index) all = All-nil P
of_kind_operands P (form.Splat size value) all = All-nil P
of_kind_operands P (form.Swizzle size vector pattern) all = All-nil P
of_kind_operands P (form.FunctionArgument index) all = All-nil P
of_kind_operands P (form.GlobalVariable v) all = All-nil P
of_kind_operands P (form.LocalVariable v) all = All-nil P
of_kind_operands P (form.Load pointer) all = All-nil P
of_kind_operands P (form.Unary op expr) all = All-nil P
of_kind_operands P (form.Binary op left right) all = All-nil P
of_kind_operands P (form.Select condition accept reject) all = All-nil P
of_kind_operands P (form.Derivative expr) all = All-nil P
of_kind_operands P (form.Relational fun argument) all = All-nil P
of_kind_operands P (form.As expr kind convert) all = All-nil P
of_kind_operands P (form.CallResult f) all = All-nil P
of_kind_operands P (form.AtomicResult ty comparison) all = All-nil P
of_kind_operands P (form.WorkGroupUniformLoadResult ty) all = All-nil P
of_kind_operands P (form.ArrayLength expr) all = All-nil P
of_kind_operands P (form.ImageSample image sampler gather coordinate array_index offset level depth_ref clamp_to_edge) all =
    all-left P (option_to_list offset) _ (all-right P (option_to_list array_index) _ (all-right P (image ∷ sampler ∷ coordinate ∷ []) _ all))
of_kind_operands P (form.ImageLoad image coordinate array_index sample level) all = All-nil P
of_kind_operands P (form.ImageQuery image query) all = All-nil P
of_kind_operands P (form.Math fun arg arg1 arg2 arg3) all = All-nil P
of_kind_operands P form.RayQueryProceedResult all = All-nil P
of_kind_operands P (form.RayQueryGetIntersection query committed) all = All-nil P
of_kind_operands P (form.RayQueryVertexPositions query committed) all = All-nil P
of_kind_operands P form.SubgroupBallotResult all = All-nil P
of_kind_operands P (form.SubgroupOperationResult ty) all = All-nil P
of_kind_operands P (form.CooperativeLoad shape pointer stride) all = All-nil P
of_kind_operands P (form.CooperativeMultiplyAdd a b c) all = All-nil P
