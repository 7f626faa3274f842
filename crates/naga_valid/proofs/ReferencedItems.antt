-- The types and initialisers of constants and overrides exist.
use Rattle.std.proofs.Common.{◌≡◌, ◌<◌, ℕ, Option, Some, None, IfSome, length, slice_get, refl, arith}
use Rattle.naga_ir.proofs.Handles.{global_references_ok}
use Rattle.naga_ir.proofs.ReferencesOfItems.{of_constant, of_override}
use Rattle.naga_ir.specs.Handles.{HandlesAccepted}
use Rattle.naga_ir.specs.ItemReferences.{global_lists}
use Rattle.naga_ir.specs.declared.ir.Constant.{Constant}
use Rattle.naga_ir.specs.declared.ir.Module.{Module}
use Rattle.naga_ir.specs.declared.ir.Override.{Override}
use Rattle.naga_ir.specs.declared.reference.Reference.TheVariants as to
use Rattle.naga_typing.proofs.Existence.{initialiser_exists, override_initialiser_exists}

module _ (m : Module) (handles : HandlesAccepted m) where
  pub constant-type : (k : ℕ) (c : Constant) → slice_get m.constants k ≡ Some c → c.ty < length m.types
  constant-type k c at = of_constant (global_lists m) (global_references_ok m handles) k c (to.Type_ c.ty) at (0, omega arith, refl)

  pub constant-initialiser : (k : ℕ) (c : Constant) → slice_get m.constants k ≡ Some c → c.init < length m.global_expressions
  constant-initialiser k c at = initialiser_exists (global_lists m) (global_references_ok m handles) k c at

  pub override-type : (k : ℕ) (o : Override) → slice_get m.overrides k ≡ Some o → o.ty < length m.types
  override-type k o at = of_override (global_lists m) (global_references_ok m handles) k o (to.Type_ o.ty) at (0, omega arith, refl)

  pub override-initialiser : (k : ℕ) (o : Override) → slice_get m.overrides k ≡ Some o → IfSome o.init (λ e. e < length m.global_expressions)
  override-initialiser k o at = by_initialiser o.init refl
    where
      by_initialiser : (init : Option ℕ) → o.init ≡ init → IfSome init (λ e. e < length m.global_expressions)
      by_initialiser None is = tt
      by_initialiser (Some e) is = override_initialiser_exists (global_lists m) (global_references_ok m handles) k o e at is
