-- What a typing may rely on, and what it promises.
use Rattle.std.specs.Prelude.{◌≡◌, ℕ, List, [], ◌∷◌, ◌++◌, Result, Ok, Err, Some, All, length, slice_get}
use Rattle.naga_arena.specs.InOrder.{AllAcceptedInOrder, RuleInOrder}
use Rattle.naga_arena.specs.Memory.{UnlessOutOfMemory}
use Rattle.naga_ir.specs.Handles.{Counts, Exists, HandlesAccepted, module_counts}
use Rattle.naga_ir.specs.ItemReferences.{expression_references, global_lists}
use Rattle.naga_ir.specs.declared.expression.Expression.{Expression}
use Rattle.naga_ir.specs.Literals.{literal_scalar}
use Rattle.naga_ir.specs.declared.expression.Expression.TheVariants as form
use Rattle.naga_ir.specs.declared.expression.Literal.{Literal as Value}
use Rattle.naga_ir.specs.declared.ir.Constant.{Constant}
use Rattle.naga_ir.specs.declared.ir.Module.{Module}
use Rattle.naga_ir.specs.declared.ir.Override.{Override}
use Rattle.naga_ir.specs.declared.types.Scalar.{Scalar as ScalarType}
use Rattle.naga_ir.specs.declared.types.TypeInner.TheVariants.{Scalar, Vector}
use Rattle.naga_ir.specs.declared.types.VectorSize.{VectorSize}
use Rattle.naga_typing.specs.Resolutions.{IsProperResolution, ResolutionExists, operand}
use Rattle.naga_typing.specs.declared.typifier.ResolveError.{ResolveError}
use Rattle.naga_typing.specs.declared.typifier.ResolveError.TheVariants.{OutOfMemory}
use Rattle.naga_typing.specs.declared.typifier.TypeResolution.{TypeResolution}
use Rattle.naga_typing.specs.declared.typifier.TypeResolution.TheVariants as resolution

-- what an expression can refer to: so many earlier expressions, so many local variables, and the items of the module
abbrev pub counts_in_sight : Module → ℕ → ℕ → Counts
counts_in_sight m expressions local_variables = record (module_counts m) {
  expressions = expressions;
  local_variables = local_variables;
}

-- an expression can be resolved: the handles of the module are right, everything that the expression refers to exists,
-- each operand among the earlier expressions, and the types of these exist and are proper
pub record CanResolve (m : Module) (x : Expression) (earlier : List TypeResolution) : Type 0 where
  pub handles : HandlesAccepted m
  pub local_variables : ℕ
  pub references : All (Exists (counts_in_sight m (length earlier) local_variables)) (expression_references x)
  pub earlier_exist : All (ResolutionExists (global_lists m)) earlier
  pub earlier_proper : All IsProperResolution earlier

-- a result is what `rule` says, out of memory aside
abbrev pub IsResolveResult : Result TypeResolution ResolveError → Result TypeResolution ResolveError → Type 0
IsResolveResult rule result = UnlessOutOfMemory (λ e. e ≡ OutOfMemory) result (λ r. rule ≡ Ok r) (λ e. rule ≡ Err e)

-- the type that `rule` says was added to the types `old`, which are now `new`, or the rule says
-- the error, out of memory aside
abbrev pub IsPushResult : {A : Type 0} → Result TypeResolution ResolveError → List TypeResolution → List TypeResolution
    → Result A ResolveError → Type 0
IsPushResult rule old new result =
    UnlessOutOfMemory (λ e. e ≡ OutOfMemory) result (λ _. (r : TypeResolution) × (rule ≡ Ok r) × (new ≡ old ++ r ∷ []))
    (λ e. rule ≡ Err e)

-- how the type of an expression follows from a module, the expression, and the types of earlier expressions
abbrev pub Resolves : Type 0
Resolves = Module → Expression → List TypeResolution → Result TypeResolution ResolveError

-- `resolves` as a rule in order
abbrev pub resolve_in_order : Resolves → Module → RuleInOrder Expression TypeResolution ResolveError
resolve_in_order resolves m before e x = resolves m x before

-- `resolutions` are the types of the global expressions of `m`, each by the types of those before it
abbrev pub AreResolved : Resolves → Module → List TypeResolution → Type 0
AreResolved resolves m resolutions = AllAcceptedInOrder (resolve_in_order resolves m) m.global_expressions resolutions

-- the laws of typings: an expression with a declared type has that type, a literal its scalar type and a splat of a
-- scalar the vector type; everything that a type refers to exists, and the type is proper; no error is `OutOfMemory`
pub record IsLawful (resolves : Resolves) : Type 0 where
  pub literals : (m : Module) (value : Value) (earlier : List TypeResolution)
      → resolves m (form.Literal value) earlier ≡ Ok (resolution.Value (Scalar (literal_scalar value)))
  pub constants : (m : Module) (c : ℕ) (d : Constant) (earlier : List TypeResolution) → slice_get m.constants c ≡ Some d
      → resolves m (form.Constant c) earlier ≡ Ok (resolution.Handle d.ty)
  pub overrides : (m : Module) (o : ℕ) (d : Override) (earlier : List TypeResolution) → slice_get m.overrides o ≡ Some d
      → resolves m (form.Override o) earlier ≡ Ok (resolution.Handle d.ty)
  pub zero_values : (m : Module) (t : ℕ) (earlier : List TypeResolution)
      → resolves m (form.ZeroValue t) earlier ≡ Ok (resolution.Handle t)
  pub compositions : (m : Module) (t : ℕ) (components : List ℕ) (earlier : List TypeResolution)
      → resolves m (form.Compose t components) earlier ≡ Ok (resolution.Handle t)
  pub splats : (m : Module) (size : VectorSize) (e : ℕ) (scalar : ScalarType) (earlier : List TypeResolution)
      → operand m.types earlier e ≡ Some (Scalar scalar)
      → resolves m (form.Splat size e) earlier ≡ Ok (resolution.Value (Vector size scalar))
  pub exist : (m : Module) (x : Expression) (earlier : List TypeResolution) (r : TypeResolution)
      → CanResolve m x earlier → resolves m x earlier ≡ Ok r → ResolutionExists (global_lists m) r
  pub proper : (m : Module) (x : Expression) (earlier : List TypeResolution) (r : TypeResolution)
      → CanResolve m x earlier → resolves m x earlier ≡ Ok r → IsProperResolution r
  pub decided : (m : Module) (x : Expression) (earlier : List TypeResolution) → CanResolve m x earlier
      → resolves m x earlier ≡ Err OutOfMemory → ⊥
