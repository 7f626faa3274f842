-- Checks by lists of conditions, in their order.
use Rattle.std.specs.Prelude.{Bool, true, false, List, [], ◌∷◌, Option, Some, None, Result, Ok, Err}
use Rattle.std.specs.Option.{option_or}

-- the first value among some options
abbrev pub first : {A : Type 0} → List (Option A) → Option A
first [] = None
first (a ∷ rest) = option_or a (first rest)

-- the last value among some options
abbrev pub last : {A : Type 0} → List (Option A) → Option A
last [] = None
last (a ∷ rest) = option_or (last rest) a

-- an error, unless a condition holds
abbrev pub require : {E : Type 0} → Bool → E → Option E
require true error = None
require false error = Some error

-- an option, if a condition holds
abbrev pub when : {A : Type 0} → Bool → Option A → Option A
when true option = option
when false option = None

-- a value, unless there is an error
abbrev pub ok_unless : {A E : Type 0} → Option E → A → Result A E
ok_unless None value = Ok value
ok_unless (Some error) value = Err error

-- a value, unless one of the conditions is broken: the first such gives the error
abbrev pub first_error_or : {A E : Type 0} → List (Option E) → A → Result A E
first_error_or refusals value = ok_unless (first refusals) value
