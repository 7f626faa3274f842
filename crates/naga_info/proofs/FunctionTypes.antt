-- The types of a function's expressions exist and are proper.
use Rattle.std.proofs.Common.{◌≡◌, ◌<◌, ℕ, List, [], Option, Some, None, Ok, length, slice_get, refl, ap, subst}
use Rattle.std.proofs.lemmas.List.Elements.{All-cons, All-contains, All-nil}
use Rattle.naga_arena.proofs.Elements.{all_at}
use Rattle.naga_flags.specs.Bits.{all_stages}
use Rattle.naga_flags.specs.declared.flags.ShaderStages.{ShaderStages}
use Rattle.naga_ir.proofs.ReferencesOfItems.{item_in}
use Rattle.naga_info.specs.FunctionTypes.{function_resolves, type_of_argument, type_of_local}
use Rattle.naga_ir.specs.Handles.{Exists, ExistsGlobally, ExpressionReferencesOk, FunctionReferencesOk}
use Rattle.naga_ir.specs.ItemReferences.{GlobalLists, expression_references, global_lists}
use Rattle.naga_ir.specs.References.{named_item}
use Rattle.naga_ir.specs.declared.expression.Expression.{Expression}
use Rattle.naga_ir.specs.declared.expression.Expression.TheVariants as form
use Rattle.naga_ir.specs.declared.ir.Function.{Function}
use Rattle.naga_ir.specs.declared.ir.FunctionArgument.{FunctionArgument}
use Rattle.naga_ir.specs.declared.ir.LocalVariable.{LocalVariable}
use Rattle.naga_ir.specs.declared.ir.Module.{Module}
use Rattle.naga_ir.specs.declared.reference.Reference.TheVariants as to
use Rattle.naga_typing.proofs.CanResolve.{function_expression_in_sight}
use Rattle.naga_ir.specs.Parts.{parts, size_override}
use Rattle.naga_ir.specs.declared.types.AddressSpace.TheVariants as space
use Rattle.naga_ir.specs.declared.types.TypeInner.TheVariants.{Pointer}
use Rattle.naga_typing.specs.PlainLaws.{IsLawfulResult}
use Rattle.naga_typing.specs.Resolutions.{IsProperResolution, ResolutionExists}
use Rattle.naga_typing.specs.Typings.{CanResolve, IsLawful, Resolves, counts_in_sight}
use Rattle.naga_typing.specs.declared.typifier.TypeResolution.{TypeResolution}
use Rattle.naga_typing.specs.declared.typifier.TypeResolution.TheVariants.{Value}

-- all stages, as they are kept
abbrev pub all : ShaderStages
all = record { 0 = all_stages }

variable_named : (x : Expression) (v : ℕ) → x ≡ form.LocalVariable v → named_item x ≡ Some (to.LocalVariable v)
unfolding named_item
variable_named x v e = ap named_item e

-- the variable that an expression names exists
pub local_variable_exists : (m : Module) (f : Function) → ExpressionReferencesOk m f → (n : ℕ) (x : Expression) → slice_get f.expressions n ≡ Some x → (v : ℕ) → x ≡ form.LocalVariable v → v < length f.local_variables
local_variable_exists m f ok n x at v e =
    All-contains (Exists (counts_in_sight m n (length f.local_variables))) (expression_references x) (to.LocalVariable v) (function_expression_in_sight m f ok n x at) (item_in x (to.LocalVariable v) (variable_named x v e))

module _ (m : Module) (f : Function) (ok : FunctionReferencesOk m f) where
  abbrev g : GlobalLists
  g = global_lists m

  of_argument : (i : ℕ) → IsLawfulResult g (type_of_argument (slice_get f.arguments i))
  of_argument i = by_argument (slice_get f.arguments i) refl
    where
      by_argument : (found : Option FunctionArgument) → slice_get f.arguments i ≡ found → IsLawfulResult g (type_of_argument found)
      by_argument None at = tt
      by_argument (Some a) at = (all_at (λ (a : FunctionArgument). a.ty < length m.types) f.arguments i a ok.in_expressions.arguments at, tt)

  of_pointer : (base : ℕ) → base < length m.types → IsLawfulResult g (Ok (Value (Pointer base space.Function)))
  unfolding parts size_override
  of_pointer base within = (All-cons (ExistsGlobally g) (to.Type_ base) [] within (All-nil (ExistsGlobally g)), tt)

  of_local : (v : ℕ) → IsLawfulResult g (type_of_local (slice_get f.local_variables v))
  of_local v = by_local (slice_get f.local_variables v) refl
    where
      by_local : (found : Option LocalVariable) → slice_get f.local_variables v ≡ found → IsLawfulResult g (type_of_local found)
      by_local None at = tt
      by_local (Some l) at = of_pointer l.ty (all_at (λ (l : LocalVariable). l.ty < length m.types) f.local_variables v l ok.local_variables at)

  -- the type of an expression exists and is proper
  pub function_type_lawful : (resolves : Resolves) → IsLawful resolves → (x : Expression) (earlier : List TypeResolution) (r : TypeResolution)
      → CanResolve m x earlier → function_resolves resolves m f x earlier ≡ Ok r → ResolutionExists g r × IsProperResolution r
  unfolding function_resolves
  function_type_lawful resolves laws (form.FunctionArgument i) earlier r can is = subst (IsLawfulResult g) is (of_argument i)
  function_type_lawful resolves laws (form.LocalVariable v) earlier r can is = subst (IsLawfulResult g) is (of_local v)
  function_type_lawful resolves laws _ earlier r can is = (laws.exist m _ earlier r can is, laws.proper m _ earlier r can is)
