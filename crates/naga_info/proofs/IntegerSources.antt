-- Where the integers of an expression come from.
use Rattle.std.proofs.Common.{◌≡◌, ◌<◌, ◌≤◌, ℕ, ℤ, Contains, List, Some, slice_get, sym, ap, subst, arith, ◌∙◌, refl}
use Rattle.naga_ir.specs.References.{operands}
use Rattle.naga_ir.specs.declared.expression.Expression.{Expression}
use Rattle.naga_ir.specs.declared.expression.Expression.TheVariants as form
use Rattle.naga_ir.specs.declared.ir.Constant.{Constant}
use Rattle.naga_ir.specs.declared.types.VectorSize.{VectorSize}
use Rattle.naga_info.proofs.Places.{AreInScope, initialiser_before, initialiser_there, operand_before, operand_exists}
use Rattle.naga_info.specs.Integers.{ContainsInteger, IsOwnInteger, Scope, operand_place, component, expression_at, initialiser, itself, literal_value, splatted, zero_value}
use Rattle.naga_info.specs.declared.sources.Place.{Place}
use Rattle.naga_info.specs.declared.sources.Place.TheVariants.{InModule}
use Rattle.naga_info.specs.Sources.{HasNoSource, IsLastSource, IsSource, IsSourceOrItself, PlaceExists, rank}

operand_of_splat : (size : VectorSize) (value : ℕ) → Contains (operands (form.Splat size value)) value
unfolding operands
operand_of_splat size value = (0, omega arith, refl)

operands_of_composition : (ty : ℕ) (components : List ℕ) → operands (form.Compose ty components) ≡ components
unfolding operands
operands_of_composition ty components = refl

module _ (s : Scope) where
  -- a splat has no integer by itself
  splat_owns_none : (size : VectorSize) (value : ℕ) (x : Expression) (n : ℤ) → IsOwnInteger s x n → x ≡ form.Splat size value → ⊥
  splat_owns_none size value _ n (literal_value v _ _) e = cc e
  splat_owns_none size value _ _ (zero_value ty _) e = cc e

  -- a constant has none
  constant_owns_none : (c : ℕ) (x : Expression) (n : ℤ) → IsOwnInteger s x n → x ≡ form.Constant c → ⊥
  constant_owns_none c _ n (literal_value v _ _) e = cc e
  constant_owns_none c _ _ (zero_value ty _) e = cc e

  -- a composition has none
  composition_owns_none : (ty : ℕ) (components : List ℕ) (x : Expression) (n : ℤ) → IsOwnInteger s x n → x ≡ form.Compose ty components → ⊥
  composition_owns_none ty components _ n (literal_value v _ _) e = cc e
  composition_owns_none ty components _ _ (zero_value t _) e = cc e

  -- the integers of a splat are the integers of what is splatted
  from_splat : (p : Place) (size : VectorSize) (value : ℕ) (n : ℤ) → ContainsInteger s p n → expression_at s p ≡ Some (form.Splat size value) → ContainsInteger s (operand_place p value) n
  from_splat p size value n (itself _ x _ at own) is = let same : x ≡ form.Splat size value = cc (sym at ∙ is) in absurd (splat_owns_none size value x n own same)
  from_splat p size value n (splatted _ k v _ at h) is = let same : v ≡ value = cc (sym at ∙ is) in subst (λ v. ContainsInteger s (operand_place p v) n) same h
  from_splat p size value n (component _ ty components c _ at within h) is = cc (sym at ∙ is)
  from_splat p size value n (initialiser _ c d _ at names h) is = cc (sym at ∙ is)

  -- the integers of a constant are the integers of its initialiser
  from_constant : (p : Place) (c : ℕ) (d : Constant) (n : ℤ) → ContainsInteger s p n → expression_at s p ≡ Some (form.Constant c) → slice_get s.«module».constants c ≡ Some d → ContainsInteger s (InModule d.init) n
  from_constant p c d n (itself _ x _ at own) is names = let same : x ≡ form.Constant c = cc (sym at ∙ is) in absurd (constant_owns_none c x n own same)
  from_constant p c d n (splatted _ k v _ at h) is names = cc (sym at ∙ is)
  from_constant p c d n (component _ ty components o _ at within h) is names = cc (sym at ∙ is)
  from_constant p c d n (initialiser _ o e _ at named h) is names =
      let same : o ≡ c = cc (sym at ∙ is) in
      let one : e ≡ d = cc (sym named ∙ (ap (slice_get s.«module».constants) same ∙ names)) in
      subst (λ (d : Constant). ContainsInteger s (InModule d.init) n) one h

  -- an integer of a composition is an integer of a component
  pub from_composition : (p : Place) (ty : ℕ) (components : List ℕ) (n : ℤ) → ContainsInteger s p n → expression_at s p ≡ Some (form.Compose ty components) → (c : ℕ) × Contains components c × ContainsInteger s (operand_place p c) n
  from_composition p ty components n (itself _ x _ at own) is = let same : x ≡ form.Compose ty components = cc (sym at ∙ is) in absurd (composition_owns_none ty components x n own same)
  from_composition p ty components n (splatted _ k v _ at h) is = cc (sym at ∙ is)
  from_composition p ty components n (component _ t cs c _ at within h) is = let same : cs ≡ components = cc (sym at ∙ is) in (c, subst (λ (cs : List ℕ). Contains cs c) same within, h)
  from_composition p ty components n (initialiser _ c d _ at names h) is = cc (sym at ∙ is)

  -- an expression that is neither a constant nor a splat nor composed has its integer by itself
  pub by_itself : (p : Place) (x : Expression) (n : ℤ) → ContainsInteger s p n → expression_at s p ≡ Some x → HasNoSource x → ((ty : ℕ) (components : List ℕ) (c : ℕ) → x ≡ form.Compose ty components → Contains components c → ContainsInteger s (operand_place p c) n → ⊥) → IsOwnInteger s x n
  by_itself p x n (itself _ y _ at own) is none others = let same : y ≡ x = cc (sym at ∙ is) in subst (λ y. IsOwnInteger s y n) same own
  by_itself p x n (splatted _ k v _ at h) is none others = let same : x ≡ form.Splat k v = cc (sym is ∙ at) in absurd (subst HasNoSource same none)
  by_itself p x n (component _ ty components c _ at within h) is none others = let same : x ≡ form.Compose ty components = cc (sym is ∙ at) in absurd (others ty components c same within h)
  by_itself p x n (initialiser _ c d _ at names h) is none others = let same : x ≡ form.Constant c = cc (sym is ∙ at) in absurd (subst HasNoSource same none)

  module _ (sound : AreInScope s) (p : Place) (there : PlaceExists s p) where
    pub splat_source : (size : VectorSize) (value : ℕ) → expression_at s p ≡ Some (form.Splat size value) → IsSource s p (operand_place p value)
    splat_source size value at = record {
      exists = operand_exists s sound p _ value there at (operand_of_splat size value);
      before = operand_before s sound p _ value there at (operand_of_splat size value);
      given = λ n h. splatted p size value n at h;
      taken = λ n h. from_splat p size value n h at;
    }

    pub constant_source : (c : ℕ) (d : Constant) → expression_at s p ≡ Some (form.Constant c) → slice_get s.«module».constants c ≡ Some d → IsSource s p (InModule d.init)
    constant_source c d at names = record {
      exists = initialiser_there s sound c d names;
      before = initialiser_before s sound p c d at names;
      given = λ n h. initialiser p c d n at names h;
      taken = λ n h. from_constant p c d n h at names;
    }

    pub component_exists : (ty : ℕ) (components : List ℕ) (c : ℕ) → expression_at s p ≡ Some (form.Compose ty components) → Contains components c → PlaceExists s (operand_place p c)
    component_exists ty components c at within = operand_exists s sound p _ c there at (subst (λ (os : List ℕ). Contains os c) (sym (operands_of_composition ty components)) within)

    pub component_before : (ty : ℕ) (components : List ℕ) (c : ℕ) → expression_at s p ≡ Some (form.Compose ty components) → Contains components c → rank s (operand_place p c) < rank s p
    component_before ty components c at within = operand_before s sound p _ c there at (subst (λ (os : List ℕ). Contains os c) (sym (operands_of_composition ty components)) within)

    -- the only component of a composition gives its integers
    pub component_source : (ty : ℕ) (components : List ℕ) (o : ℕ) → expression_at s p ≡ Some (form.Compose ty components) → Contains components o → ((c : ℕ) → Contains components c → c ≡ o) → IsSource s p (operand_place p o)
    component_source ty components o at within all = record {
      exists = component_exists ty components o at within;
      before = component_before ty components o at within;
      given = λ n h. component p ty components o n at within h;
      taken = λ n h. let found = from_composition p ty components n h at in subst (λ c. ContainsInteger s (operand_place p c) n) (all found.0 found.1) found.2;
    }

  -- at first a place is itself
  pub begin : (p : Place) → PlaceExists s p → IsSourceOrItself s p p
  begin p there = record { exists = there; not_after = omega arith; given = λ n h. h; taken = λ n h. h }

  -- then one comes before the other
  pub follow : (p q r : Place) → IsSourceOrItself s p q → IsSource s q r → IsSourceOrItself s p r
  follow p q r so next = record {
    exists = next.exists;
    not_after = let a : rank s q ≤ rank s p = so.not_after in let b : rank s r < rank s q = next.before in omega (arith, a, b);
    given = λ n h. so.given n (next.given n h);
    taken = λ n h. next.taken n (so.taken n h);
  }

  -- and if the last source of the next one is kept, it is the last source of the first
  pub jump : (p q r last : Place) → IsSourceOrItself s p q → IsSource s q r → IsLastSource s r last → IsLastSource s p last
  jump p q r last so next end =
      let reached = follow p q r so next in
      record {
        source = record {
          exists = end.source.exists;
          not_after = let a : rank s r ≤ rank s p = reached.not_after in let b : rank s last ≤ rank s r = end.source.not_after in omega (arith, a, b);
          given = λ n h. reached.given n (end.source.given n h);
          taken = λ n h. end.source.taken n (reached.taken n h);
        };
        last = end.last;
      }
