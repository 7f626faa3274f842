-- What the type of an operand refers to exists.
use Rattle.std.proofs.Common.{◌≡◌, ℕ, Option, Some, None, option_map, refl, slice_get, subst}
use Rattle.naga_ir.specs.Handles.{GlobalReferencesOk}
use Rattle.naga_ir.specs.ItemReferences.{GlobalLists}
use Rattle.naga_ir.specs.declared.types.«Type».{«Type»}
use Rattle.naga_ir.specs.declared.types.TypeInner.{TypeInner}
use Rattle.naga_typing.proofs.Existence.{references_exist}
use Rattle.naga_typing.specs.Context.{ReferencesExist}
use Rattle.naga_typing.specs.Resolutions.{ResolutionExists, inner_in}
use Rattle.naga_typing.specs.declared.typifier.TypeResolution.{TypeResolution}
use Rattle.naga_typing.specs.declared.typifier.TypeResolution.TheVariants.{Handle, Value}

module _ (g : GlobalLists) (ok : GlobalReferencesOk g) where
  of_found : (t : ℕ) (found : Option «Type») → slice_get g.types t ≡ found → (inner : TypeInner) → option_map (λ (x : «Type»). x.inner) found ≡ Some inner → ReferencesExist g inner
  of_found t None at inner e = cc e
  of_found t (Some x) at inner e = let same : x.inner ≡ inner = cc e in subst (ReferencesExist g) same (references_exist g ok t x at)

  -- what a type refers to exists if its resolution does
  pub form_exists : (r : TypeResolution) (inner : TypeInner) → ResolutionExists g r → inner_in g.types r ≡ Some inner → ReferencesExist g inner
  form_exists (Handle t) inner there e = of_found t (slice_get g.types t) refl inner e
  form_exists (Value x) inner there e = let same : x ≡ inner = cc e in subst (ReferencesExist g) same there
