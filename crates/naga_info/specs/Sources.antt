-- Where the integers of expressions come from.
use Rattle.std.specs.Prelude.{◌≡◌, ◌+◌, ◌<◌, ◌≤◌, ℕ, ℤ, Contains, List, Option, Some, length, slice_get, ⊤}
use Rattle.naga_info.specs.Integers.{ContainsInteger, Scope, expression_at, scope_in}
use Rattle.naga_info.specs.declared.context.FunctionContext.{FunctionContext}
use Rattle.naga_info.specs.declared.sources.Place.{Place}
use Rattle.naga_info.specs.declared.sources.Place.TheVariants.{InFunction, InModule}
use Rattle.naga_info.specs.declared.sources.Sources.{Sources}
use Rattle.naga_ir.specs.declared.expression.Expression.{Expression}
use Rattle.naga_ir.specs.declared.expression.Expression.TheVariants as form

-- there is an expression at the place
abbrev pub PlaceExists : Scope → Place → Type 0
PlaceExists s (InFunction e) = e < length s.function.expressions
PlaceExists s (InModule e) = e < length s.«module».global_expressions

-- the expressions of a function come after all global ones
abbrev pub rank : Scope → Place → ℕ
rank s (InFunction e) = length s.«module».global_expressions + e
rank s (InModule e) = e

-- the expression at `p` has its integers from the expression at `q`, which comes before it
pub record IsSource (s : Scope) (p q : Place) : Type 0 where
  pub exists : PlaceExists s q
  pub before : rank s q < rank s p
  pub given : (n : ℤ) → ContainsInteger s q n → ContainsInteger s p n
  pub taken : (n : ℤ) → ContainsInteger s p n → ContainsInteger s q n

-- the expression at `p` has its integers from the expression at `q`, which comes before it or is the same
pub record IsSourceOrItself (s : Scope) (p q : Place) : Type 0 where
  pub exists : PlaceExists s q
  pub not_after : rank s q ≤ rank s p
  pub given : (n : ℤ) → ContainsInteger s q n → ContainsInteger s p n
  pub taken : (n : ℤ) → ContainsInteger s p n → ContainsInteger s q n

-- `x` is neither a constant nor a splat, nor a composition of one component
abbrev pub HasNoSource : Expression → Type 0
HasNoSource (form.Constant c) = ⊥
HasNoSource (form.Splat size value) = ⊥
HasNoSource (form.Compose ty components) = length components ≡ 1 → ⊥
HasNoSource _ = ⊤

-- the expression at a place has its integers from no single other
abbrev pub HasNoSourceAt : Scope → Place → Type 0
HasNoSourceAt s p = (x : Expression) → expression_at s p ≡ Some x → HasNoSource x

-- `components` are the components of the expression at `p`, if it is a composition, and else there are none
pub record AreComponents (s : Scope) (p : Place) (components : List ℕ) : Type 0 where
  pub of_composition : (ty : ℕ) (given : List ℕ) → expression_at s p ≡ Some (form.Compose ty given) → components ≡ given
  pub composed : (c : ℕ) → Contains components c → (ty : ℕ) × (expression_at s p ≡ Some (form.Compose ty components))

-- the expression at `p` has its integers from the expression at `q`, which comes before it or is the same, and has them
-- from no other
pub record IsLastSource (s : Scope) (p q : Place) : Type 0 where
  pub source : IsSourceOrItself s p q
  pub last : HasNoSourceAt s q

-- the last source that `kept` has for the expression at a place, if it has one
abbrev pub kept_at : Sources → Place → Option Place
kept_at kept (InFunction e) = slice_get kept.in_function e
kept_at kept (InModule e) = slice_get kept.in_module e

-- each place in `kept` is the last source of the expression that it is kept for
abbrev pub AreSources : Scope → Sources → Type 0
AreSources s kept = (p q : Place) → kept_at kept p ≡ Some q → IsLastSource s p q

-- what context `c` keeps of the sources of expressions is right for its module and its function
abbrev pub AreSourcesRight : FunctionContext → Type 0
AreSourcesRight c = AreSources (scope_in c.«module».now c.function.now) c.sources.now
