-- The forbidden integers that a search is about.
use Rattle.std.specs.Prelude.{◌≡◌, ◌<◌, ℕ, ℤ, Bool as Boolean, true, false, List, Option, Some, None, slice_get}
use Rattle.naga_info.specs.Integers.{IsOwnInteger, Scope, operand_place}
use Rattle.naga_info.specs.declared.sources.Place.{Place}
use Rattle.naga_ir.specs.declared.expression.Expression.{Expression}
use Rattle.naga_operator_exprs.specs.Integers.{ContainsForbidden, is_forbidden}
use Rattle.naga_operator_exprs.specs.declared.integers.Forbidden.{Forbidden}

-- whether a number that may not be there is forbidden
abbrev pub is_forbidden_found : Forbidden → Option ℤ → Boolean
is_forbidden_found forbidden (Some n) = is_forbidden forbidden n
is_forbidden_found forbidden None = false

-- the integer that an expression is by itself is forbidden
abbrev pub OwnForbidden : Scope → Forbidden → Expression → Type 0
OwnForbidden s forbidden x = (n : ℤ) × IsOwnInteger s x n × (is_forbidden forbidden n ≡ true)

-- no forbidden number is in the first `i` of `components`, the components of the expression at `p`
abbrev pub NoneBefore : Scope → Forbidden → Place → List ℕ → ℕ → Type 0
NoneBefore s forbidden p components i =
    (k c : ℕ) → k < i → slice_get components k ≡ Some c → ContainsForbidden s forbidden (operand_place p c) → ⊥
