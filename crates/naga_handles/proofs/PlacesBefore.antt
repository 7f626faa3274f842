-- Indices in their order, as far as they are less than another.
use Rattle.std.proofs.Common.{◌≡◌, ◌<◌, ◌≤◌, ◌⊎◌, ⊎_elim, inl, inr, ℕ, zero, suc, Contains, List, [], ◌∷◌, refl, sym, subst, arith}
use Rattle.std.proofs.lemmas.List.Elements.{All-contains, Contains-append_cases, Contains-append_right}
use Rattle.naga_ir.specs.FirstError.{AcceptsAll, IsFirstErrorOf}
use Rattle.naga_ir.specs.declared.reference.Reference.TheVariants as to
use Rattle.naga_handles.specs.steps.ItemChecks.{IsOperandResult}
use Rattle.naga_handles.specs.steps.VisitState.{AllBefore, NamesLate}
use Rattle.naga_handles.specs.declared.error.InvalidHandleError.{InvalidHandleError}

module _ (place : ℕ) (all : List ℕ) where
  -- the indices before `left` are less
  pub record Below (left : List ℕ) : Type 0 where
    seen : (p : ℕ) → Contains all p → (p < place) ⊎ Contains left p
    inside : (p : ℕ) → Contains left p → Contains all p

  pub none_below : (left : List ℕ) → left ≡ all → Below left
  none_below left is = record { seen = λ p h. inr (subst (λ l. Contains l p) (sym is) h); inside = λ p h. subst (λ l. Contains l p) is h }

  module _ (left : List ℕ) (o : ℕ) (more : List ℕ) (b : Below left) (e : left ≡ o ∷ more) where
    pub one_below : o < place → Below more
    one_below below = record {
      seen = λ p h. ⊎_elim
          (λ (l : p < place). inl l)
          (λ (r : Contains left p). ⊎_elim
          (λ (first : Contains (o ∷ []) p). inl (subst (λ k. k < place) (alone p first) below))
          (λ (rest : Contains more p). inr rest)
          (Contains-append_cases (o ∷ []) more p (subst (λ l. Contains l p) e r)))
          (b.seen p h);
      inside = λ p h. b.inside p (subst (λ l. Contains l p) (sym e) (Contains-append_right (o ∷ []) more p h));
    }
      where
        alone : (p : ℕ) → Contains (o ∷ []) p → o ≡ p
        alone p (zero, within, is) = is
        alone p (suc k, within, is) = absurd (omega (arith, within))

  pub all_below : (left : List ℕ) → Below left → left ≡ [] → AllBefore place all
  unfolding AllBefore
  all_below left b e = λ p h. ⊎_elim
      (λ (l : p < place). l)
      (λ (r : Contains left p). let none = subst (λ l. Contains l p) e r in absurd (omega (arith, none.1)))
      (b.seen p h)

-- operands that are accepted come before their expression
pub accepted_before : (e : ℕ) (operands : List ℕ) → AcceptsAll (IsOperandResult e) operands → AllBefore e operands
unfolding AllBefore
accepted_before e operands accepted = λ p stands. All-contains (λ o. o < e) operands p accepted stands

-- the first that is refused does not
pub refused_late : (e : ℕ) (operands : List ℕ) (error : InvalidHandleError) → IsFirstErrorOf (IsOperandResult e) operands error → NamesLate to.Expression e operands error
refused_late e operands error r =
    let stands : Contains operands r.item = subst (λ l. Contains l r.item) (sym r.at) (Contains-append_right r.before (r.item ∷ r.after) r.item (0, omega arith, refl)) in (
      r.item,
      stands,
      by_place r.refused.0,
      r.refused.1,
    )
  where
    by_place : (r.item < e → ⊥) → e ≤ r.item
    by_place late = omega (arith, late)
