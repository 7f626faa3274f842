-- The types of the expressions of a function.
use Rattle.std.specs.Prelude.{◌≡◌, ◌<◌, ℕ, List, Option, Some, None, Result, Ok, Err, length, slice_get}
use Rattle.naga_arena.specs.InOrder.{AllAcceptedInOrder, FollowInOrder, RuleInOrder, given_at}
use Rattle.naga_info.specs.declared.infer.UntypedExpression.{UntypedExpression}
use Rattle.naga_info.specs.declared.module_info.FunctionInfo.{FunctionInfo}
use Rattle.naga_ir.specs.declared.expression.Expression.{Expression}
use Rattle.naga_ir.specs.declared.expression.Expression.TheVariants as form
use Rattle.naga_ir.specs.declared.ir.Function.{Function}
use Rattle.naga_ir.specs.declared.ir.FunctionArgument.{FunctionArgument}
use Rattle.naga_ir.specs.declared.ir.LocalVariable.{LocalVariable}
use Rattle.naga_ir.specs.declared.ir.Module.{Module}
use Rattle.naga_ir.specs.declared.types.AddressSpace.TheVariants as space
use Rattle.naga_ir.specs.declared.types.TypeInner.TheVariants.{Pointer}
use Rattle.naga_typing.specs.PlainTyping.{ResolveResult}
use Rattle.naga_typing.specs.Typings.{Resolves}
use Rattle.naga_typing.specs.declared.typifier.ResolveError.{ResolveError}
use Rattle.naga_typing.specs.declared.typifier.ResolveError.TheVariants.{NotResolvable}
use Rattle.naga_typing.specs.declared.typifier.TypeResolution.{TypeResolution}
use Rattle.naga_typing.specs.declared.typifier.TypeResolution.TheVariants.{Handle, Value}

-- the declared type of an argument, if there is one
abbrev pub type_of_argument : Option FunctionArgument → ResolveResult
type_of_argument None = Err NotResolvable
type_of_argument (Some a) = Ok (Handle a.ty)

-- a variable of a function is a pointer to its type, if there is one
abbrev pub type_of_local : Option LocalVariable → ResolveResult
type_of_local None = Err NotResolvable
type_of_local (Some v) = Ok (Value (Pointer v.ty space.Function))

-- the type of an expression of a function, by the types of the expressions before it: the type of an argument, of a
-- variable, or the one that the typing resolves
unfoldable pub function_resolves : Resolves → Module → Function → Expression → List TypeResolution → ResolveResult
function_resolves resolves m f (form.FunctionArgument index) earlier = type_of_argument (slice_get f.arguments index)
function_resolves resolves m f (form.LocalVariable v) earlier = type_of_local (slice_get f.local_variables v)
function_resolves resolves m f (form.Literal value) earlier = resolves m (form.Literal value) earlier
function_resolves resolves m f (form.Constant c) earlier = resolves m (form.Constant c) earlier
function_resolves resolves m f (form.Override o) earlier = resolves m (form.Override o) earlier
function_resolves resolves m f (form.ZeroValue ty) earlier = resolves m (form.ZeroValue ty) earlier
function_resolves resolves m f (form.Compose ty components) earlier = resolves m (form.Compose ty components) earlier
function_resolves resolves m f (form.Access base index) earlier = resolves m (form.Access base index) earlier
function_resolves resolves m f (form.AccessIndex base index) earlier = resolves m (form.AccessIndex base index) earlier
function_resolves resolves m f (form.Splat size value) earlier = resolves m (form.Splat size value) earlier
function_resolves resolves m f (form.Swizzle size vector pattern) earlier =
    resolves m (form.Swizzle size vector pattern) earlier
function_resolves resolves m f (form.GlobalVariable v) earlier = resolves m (form.GlobalVariable v) earlier
function_resolves resolves m f (form.Load pointer) earlier = resolves m (form.Load pointer) earlier
function_resolves resolves m f
    (form.ImageSample image sampler gather coordinate array_index offset level depth_ref clamp_to_edge) earlier =
    resolves m
    (form.ImageSample image sampler gather coordinate array_index offset level depth_ref clamp_to_edge) earlier
function_resolves resolves m f (form.ImageLoad image coordinate array_index sample level) earlier =
    resolves m (form.ImageLoad image coordinate array_index sample level) earlier
function_resolves resolves m f (form.ImageQuery image query) earlier = resolves m (form.ImageQuery image query) earlier
function_resolves resolves m f (form.Unary op expr) earlier = resolves m (form.Unary op expr) earlier
function_resolves resolves m f (form.Binary op left right) earlier = resolves m (form.Binary op left right) earlier
function_resolves resolves m f (form.Select condition accept reject) earlier =
    resolves m (form.Select condition accept reject) earlier
function_resolves resolves m f (form.Derivative expr) earlier = resolves m (form.Derivative expr) earlier
function_resolves resolves m f (form.Relational fun argument) earlier =
    resolves m (form.Relational fun argument) earlier
function_resolves resolves m f (form.Math fun arg arg1 arg2 arg3) earlier =
    resolves m (form.Math fun arg arg1 arg2 arg3) earlier
function_resolves resolves m f (form.As expr kind convert) earlier = resolves m (form.As expr kind convert) earlier
function_resolves resolves m f (form.CallResult called) earlier = resolves m (form.CallResult called) earlier
function_resolves resolves m f (form.AtomicResult ty comparison) earlier =
    resolves m (form.AtomicResult ty comparison) earlier
function_resolves resolves m f (form.WorkGroupUniformLoadResult ty) earlier =
    resolves m (form.WorkGroupUniformLoadResult ty) earlier
function_resolves resolves m f (form.ArrayLength expr) earlier = resolves m (form.ArrayLength expr) earlier
function_resolves resolves m f form.RayQueryProceedResult earlier = resolves m form.RayQueryProceedResult earlier
function_resolves resolves m f (form.RayQueryGetIntersection query committed) earlier =
    resolves m (form.RayQueryGetIntersection query committed) earlier
function_resolves resolves m f (form.RayQueryVertexPositions query committed) earlier =
    resolves m (form.RayQueryVertexPositions query committed) earlier
function_resolves resolves m f form.SubgroupBallotResult earlier = resolves m form.SubgroupBallotResult earlier
function_resolves resolves m f (form.SubgroupOperationResult ty) earlier =
    resolves m (form.SubgroupOperationResult ty) earlier
function_resolves resolves m f (form.CooperativeLoad shape pointer stride) earlier =
    resolves m (form.CooperativeLoad shape pointer stride) earlier
function_resolves resolves m f (form.CooperativeMultiplyAdd a b c) earlier =
    resolves m (form.CooperativeMultiplyAdd a b c) earlier

-- `function_resolves` as a rule in order
abbrev pub type_in_order : Resolves → Module → Function → RuleInOrder Expression TypeResolution ResolveError
type_in_order resolves m f before e x = function_resolves resolves m f x before

-- `types` are the types of the expressions of `f`, each by the types of those before it
abbrev pub AreFunctionTypes : Resolves → Module → Function → List TypeResolution → Type 0
AreFunctionTypes resolves m f types = AllAcceptedInOrder (type_in_order resolves m f) f.expressions types

-- there is an expression at `place`, and `types` are the types of the expressions before it, each by the types of those
-- before it
pub record AreTypesBefore (resolves : Resolves) (m : Module) (f : Function) (place : ℕ) (types : List TypeResolution) : Type 0 where
  pub within : place < length f.expressions
  pub as_many : length types ≡ place
  pub follow : FollowInOrder (type_in_order resolves m f) f.expressions types

-- the expression at `place` has no type, and `error` is why, by `types`, the types of those before it
abbrev pub IsUntyped : Resolves → Module → Function → ℕ → List TypeResolution → ResolveError → Type 0
IsUntyped resolves m f place types error =
    given_at (type_in_order resolves m f) f.expressions types place ≡ Some (Err error)

-- what is known of a function, whether all its expressions have types or not
abbrev pub info_of : Result FunctionInfo UntypedExpression → FunctionInfo
info_of (Ok info) = info
info_of (Err e) = e.info
