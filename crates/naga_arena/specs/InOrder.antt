-- Values that a rule gives in order, each by the values before it.
use Rattle.std.specs.Prelude.{◌≡◌, ℕ, List, Option, Some, Result, Ok, Err, length, option_map, slice_get, take}

-- a rule gives for an item at an index a value or an error, by the values of the items before it
abbrev pub RuleInOrder : Type 0 → Type 0 → Type 0 → Type 0
RuleInOrder X V E = List V → ℕ → X → Result V E

-- what a rule gives at an index, if there is an item
abbrev pub given_at : {X V E : Type 0} → RuleInOrder X V E → List X → List V → ℕ → Option (Result V E)
given_at rule items before place = option_map (rule before place) (slice_get items place)

-- each of `values` is what `rule` gives for the item of `items` at its index, by the values before it
abbrev pub FollowInOrder : {X V E : Type 0} → RuleInOrder X V E → List X → List V → Type 0
FollowInOrder {X} {V} rule items values = (k : ℕ) (v : V) → slice_get values k ≡ Some v → given_at rule items (take k values) k ≡ Some (Ok v)

-- `rule` accepts each of `items`, by the values before it, and gives `values`
pub record AllAcceptedInOrder {X V E : Type 0} (rule : RuleInOrder X V E) (items : List X) (values : List V) : Type 0 where
  pub as_many : length values ≡ length items
  pub follow : FollowInOrder rule items values

-- `rule` accepts the items before `place`, and by their values refuses the item at `place` with `error`
pub record IsFirstErrorInOrder {X V E : Type 0} (rule : RuleInOrder X V E) (items : List X) (place : ℕ) (error : E) : Type 0 where
  pub before : List V
  pub as_many : length before ≡ place
  pub follow : FollowInOrder rule items before
  pub refused : given_at rule items before place ≡ Some (Err error)
