-- What a call returns by a rule, and what a rule gives for each of some items.
use Rattle.std.specs.Prelude.{◌≡◌, ◌⊎◌, ℕ, List, Some, Result, Err, All, IsOk, slice_get, take}

-- a call returns `result`, which is what `rule` says, or `refused`, that memory was refused,
-- if `NeedsMemory` holds of `rule`
abbrev pub IsResultOf : {A E : Type 0} → (Result A E → Type 0) → E → Result A E → Result A E → Type 0
IsResultOf NeedsMemory refused rule result = (result ≡ rule) ⊎ ((result ≡ Err refused) × NeedsMemory rule)

-- the item at `place` is refused with `error`, and all before it are accepted
pub record IsFirstError {A E : Type 0} (results : List (Result A E)) (place : ℕ) (error : E) : Type 0 where
  pub refused : slice_get results place ≡ Some (Err error)
  pub accepted_before : All IsOk (take place results)
