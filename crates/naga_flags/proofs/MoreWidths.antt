-- A scalar whose width some capabilities allow is allowed by more.
use Rattle.std.proofs.Common.{◌≡◌, ◌==◌, ◌&&◌, ◌||◌, ℕ, Bool as Boolean, true, false, ap, refl}
use Rattle.naga_ir.specs.declared.types.Scalar.{Scalar}
use Rattle.naga_ir.specs.declared.types.ScalarKind.{ScalarKind}
use Rattle.naga_ir.specs.declared.types.ScalarKind.TheVariants.{Sint, Uint, Float, Bool, AbstractInt, AbstractFloat}
use Rattle.naga_flags.specs.Bits.{FLOAT64, SHADER_FLOAT16, SHADER_INT16, SHADER_INT64}
use Rattle.naga_flags.specs.Flags.{has}
use Rattle.naga_flags.specs.Width.{is_good_width, width_16, width_32, width_64}
use Rattle.naga_flags.proofs.HasLemmas.{has-trans}

-- what a condition or another says is said by two that hold where these do
pub or-kept : (a b c d : Boolean) → (a ≡ true → c ≡ true) → (b ≡ true → d ≡ true) → (a || b) ≡ true → (c || d) ≡ true
or-kept true b c d left right h = ap (λ x. x || d) (left refl)
or-kept false b true d left right h = refl
or-kept false b false d left right h = right h

-- what both say is said by two that hold where these do
pub and-kept : (a b c d : Boolean) → (a ≡ true → c ≡ true) → (b ≡ true → d ≡ true) → (a && b) ≡ true → (c && d) ≡ true
and-kept true b true d left right h = right h
and-kept true b false d left right h = left refl
and-kept false b c d left right h = cc h

module _ (less more : ℕ) (contained : has more less ≡ true) where
  -- a capability that is needed for a width
  width-kept : (a b : Boolean) (flag : ℕ) → (a || b && has less flag) ≡ true → (a || b && has more flag) ≡ true
  width-kept a b flag = or-kept a (b && has less flag) a (b && has more flag) (λ h. h) (and-kept b (has less flag) b (has more flag) (λ h. h) (has-trans more less flag contained))

  widths-kept : (width wide narrow : ℕ) → (width == width_32 || width == width_64 && has less wide || width == width_16 && has less narrow) ≡ true
      → (width == width_32 || width == width_64 && has more wide || width == width_16 && has more narrow) ≡ true
  widths-kept width wide narrow = or-kept _ _ _ _ (width-kept (width == width_32) (width == width_64) wide) (and-kept (width == width_16) (has less narrow) (width == width_16) (has more narrow) (λ h. h) (has-trans more less narrow contained))

  of-kind : (kind : ScalarKind) (width : ℕ) → is_good_width less (record { kind = kind; width = width }) ≡ true → is_good_width more (record { kind = kind; width = width }) ≡ true
  of-kind Bool width h = h
  of-kind Float width h = widths-kept width FLOAT64 SHADER_FLOAT16 h
  of-kind Sint width h = widths-kept width SHADER_INT64 SHADER_INT16 h
  of-kind Uint width h = widths-kept width SHADER_INT64 SHADER_INT16 h
  of-kind AbstractInt width h = h
  of-kind AbstractFloat width h = h

  pub good-width-more : (s : Scalar) → is_good_width less s ≡ true → is_good_width more s ≡ true
  good-width-more s = of-kind s.kind s.width
