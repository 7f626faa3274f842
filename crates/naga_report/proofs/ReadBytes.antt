-- What holds of the bytes that were read.
use Rattle.std.proofs.Common.{◌≡◌, ℕ, List, Option, None, Some, IfSome, subst}

-- what holds of the bytes that were read holds of those that the reader is known to have had
pub holds_known : (known : Option (List ℕ)) (read : List ℕ) (P : List ℕ → Type 0) → IfSome known (λ input. read ≡ input) → P read → IfSome known P
holds_known None read P e h = tt
holds_known (Some input) read P e h = subst P e h
