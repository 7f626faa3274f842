-- What stands at a number, counted from 1.
use Rattle.std.specs.Prelude.{ℕ, zero, suc, List, Option, None, slice_get}

-- what has the number `n`, if the numbers of all begin at 1
abbrev pub numbered : {A : Type 0} → List A → ℕ → Option A
numbered all zero = None
numbered all (suc n) = slice_get all n
