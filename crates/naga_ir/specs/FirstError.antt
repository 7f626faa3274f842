-- The result of checking items in order, up to the first that is refused.
use Rattle.std.specs.Prelude.{◌≡◌, List, ◌∷◌, ◌++◌, Result, Ok, Err, All, OnOk, IfErr}

-- `checks` accepts each of `items`
abbrev pub AcceptsAll : {A E : Type 0} → (A → Result (Unit {0}) E → Type 0) → List A → Type 0
AcceptsAll checks items = All (λ item. checks item (Ok tt)) items

-- `checks` refuses one of `items` with `error`, and accepts all before it
pub record IsFirstErrorOf {A E : Type 0} (checks : A → Result (Unit {0}) E → Type 0) (items : List A) (error : E) : Type 0 where
  pub before : List A
  pub item : A
  pub after : List A
  pub at : items ≡ before ++ item ∷ after
  pub accepted_before : AcceptsAll checks before
  pub refused : checks item (Err error)

-- `checks` accepts each of `items`, or `result` is the error of the first that it refuses
pub record ChecksEach {A E : Type 0} (checks : A → Result (Unit {0}) E → Type 0) (items : List A) (result : Result (Unit {0}) E) : Type 0 where
  pub accepted : OnOk result (AcceptsAll checks items)
  pub refused : IfErr result (IsFirstErrorOf checks items)
