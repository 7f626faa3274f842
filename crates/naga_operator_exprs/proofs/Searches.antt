-- What is found if a composition is searched.
use Rattle.std.proofs.Common.{◌≡◌, ◌≤◌, ◌+◌, ap, ℕ, ℤ, Contains, List, [], ◌∷◌, Some, length, slice_get, refl, sym, subst, arith, ◌∙◌}
use Rattle.std.proofs.lemmas.Option.{slice_get_read}
use borrow.Author.Count.{below_more}
use Rattle.naga_ir.specs.declared.expression.Expression.{Expression}
use Rattle.naga_ir.specs.declared.expression.Expression.TheVariants as form
use Rattle.naga_info.proofs.IntegerSources.{by_itself}
use Rattle.naga_info.proofs.Places.{AreInScope}
use Rattle.naga_info.specs.Surroundings.{AreSound, ExpressionSurroundings}
use Rattle.naga_info.specs.Integers.{IsOwnInteger, Scope, literal_value, operand_place, zero_value}
use Rattle.naga_operator_exprs.specs.Integers.{ContainsForbidden, scope_of}
use Rattle.naga_operator_exprs.specs.declared.integers.Forbidden.{Forbidden}
use Rattle.naga_info.specs.declared.sources.Place.{Place}
use Rattle.naga_info.specs.Sources.{AreComponents, HasNoSourceAt}
use Rattle.naga_operator_exprs.specs.steps.Places.{NoneBefore}

-- the handles of a module and of a function in it are right where a rule is checked
pub in_scope : (s : ExpressionSurroundings) → AreSound s → AreInScope (scope_of s)
in_scope s sound = record { handles = sound.handles; in_function = sound.in_function }

module _ (s : Scope) (forbidden : Forbidden) (p : Place) (items : List ℕ) where
  -- if none is in the next component, none is in one more
  pub one_more : (i o : ℕ) → slice_get items i ≡ Some o → NoneBefore s forbidden p items i → (ContainsForbidden s forbidden (operand_place p o) → ⊥) → NoneBefore s forbidden p items (i + 1)
  one_more i o at none here k c below reads h =
      below_more (λ (k : ℕ). (c : ℕ) → slice_get items k ≡ Some c → ContainsForbidden s forbidden (operand_place p c) → ⊥) i (λ k lt c. none k c lt)
      (λ c reads h. let same : c ≡ o = cc (sym reads ∙ at) in here (subst (λ c. ContainsForbidden s forbidden (operand_place p c)) same h)) k below c reads h

  -- none is in a component if all were searched
  not_among : (i c : ℕ) → NoneBefore s forbidden p items i → length items ≤ i → Contains items c → ContainsForbidden s forbidden (operand_place p c) → ⊥
  not_among i c none ended (k, below, at) h = none k c (omega (arith, below, ended)) (slice_get_read items (length items) k c refl below (sym at)) h

  -- a composition is not an integer by itself
  not_own : (x : Expression) (n : ℤ) (ty : ℕ) → IsOwnInteger s x n → x ≡ form.Compose ty items → ⊥
  not_own _ n ty (literal_value value _ is) same = cc same
  not_own _ _ ty (zero_value other is) same = cc same

  -- there is a component
  first : (components : List ℕ) → (length components ≡ 0 → ⊥) → (c : ℕ) × Contains components c
  first [] some = absurd (some refl)
  first (c ∷ components) some = (c, (0, omega arith, refl))

  -- none is in a composition if all its components were searched
  pub none_in : (i : ℕ) → HasNoSourceAt s p → AreComponents s p items → (length items ≡ 0 → ⊥) → NoneBefore s forbidden p items i → length items ≤ i → ContainsForbidden s forbidden p → ⊥
  none_in i plain parts some none ended h =
      let one = first items some in
      let composed = parts.composed one.0 one.1 in
      let x = form.Compose composed.0 items in
      let own = by_itself s p x h.0 h.1 composed.1 (plain x composed.1) (λ ty components c is within inside. not_among i c none ended (subst (λ (os : List ℕ). Contains os c) (sym (parts.of_composition ty components (composed.1 ∙ ap Some is))) within) (h.0, inside, h.2)) in
      not_own x h.0 composed.0 own refl
