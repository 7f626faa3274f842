-- What a call returns unless memory was refused.
use Rattle.std.specs.Prelude.{◌⊎◌, Result, MatchResult}

-- unless the error is that memory was refused, a value is as the one rule says, and an error as the other
abbrev pub UnlessOutOfMemory : {A E : Type 0} → (E → Type 0) → Result A E → (A → Type 0) → (E → Type 0) → Type 0
UnlessOutOfMemory IsOutOfMemory result Accepts Refuses = MatchResult result Accepts (λ e. IsOutOfMemory e ⊎ Refuses e)
