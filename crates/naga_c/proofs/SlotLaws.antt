-- Types whose values hosts may share, or not.
use Rattle.std.proofs.Common.{◌≡◌, ℕ, Bool, true, false, List, Some, slice_get, subst, sym, ◌∙◌}
use Rattle.std.proofs.lemmas.Option.{same_Some}
use Rattle.naga_flags.specs.Bits.{HOST_SHAREABLE}
use Rattle.naga_flags.specs.Flags.{has}
use Rattle.naga_types.specs.declared.info.TypeInfo.{TypeInfo}
use Rattle.naga_c.specs.Slots.{IsShareable}

module _ (infos : List TypeInfo) (ty handle : ℕ) (info : TypeInfo) (shared : Bool) (same : handle ≡ ty) (is : slice_get infos handle ≡ Some info) (by : shared ≡ has info.flags.0 HOST_SHAREABLE) where
  -- hosts may share values of the type of an info that says so
  pub shareable : shared ≡ true → IsShareable infos ty
  shareable may = (info, subst (λ k. slice_get infos k ≡ Some info) same is, sym by ∙ may)

  -- hosts may not share values of the type of an info that doesn't say so
  pub not_shareable : shared ≡ false → ¬ (IsShareable infos ty)
  not_shareable may_not = λ s.
      let one : s.0 ≡ info = same_Some s.0 info (sym s.1 ∙ subst (λ k. slice_get infos k ≡ Some info) same is) in
      let may : has info.flags.0 HOST_SHAREABLE ≡ true = subst (λ (i : TypeInfo). has i.flags.0 HOST_SHAREABLE ≡ true) one s.2 in
      let both : true ≡ false = sym may ∙ (sym by ∙ may_not) in
      cc
