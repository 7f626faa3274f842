-- The forbidden integers in a constant expression.
use Rattle.std.specs.Prelude.{◌≡◌, ◌==◌, leb, ℤ, pos, negsuc, Bool as Boolean, true, false}
use Rattle.naga_info.specs.Integers.{ContainsInteger, Scope}
use Rattle.naga_info.specs.Surroundings.{ExpressionSurroundings}
use Rattle.naga_info.specs.declared.sources.Place.{Place}
use Rattle.naga_operator_exprs.specs.declared.integers.Forbidden.{Forbidden}
use Rattle.naga_operator_exprs.specs.declared.integers.Forbidden.TheVariants.{AtLeast, Zero}

-- where the constant expressions are, of what the validation of an expression depends on
abbrev pub scope_of : ExpressionSurroundings → Scope
scope_of s = record { «module» = s.«module»; function = s.function }

-- whether a number is forbidden
abbrev pub is_forbidden : Forbidden → ℤ → Boolean
is_forbidden (AtLeast bound) (pos k) = leb bound k
is_forbidden (AtLeast bound) (negsuc k) = false
is_forbidden Zero (pos k) = k == 0
is_forbidden Zero (negsuc k) = false

-- a number that `forbidden` forbids is in the expression at `p`
abbrev pub ContainsForbidden : Scope → Forbidden → Place → Type 0
ContainsForbidden s forbidden p = (n : ℤ) × ContainsInteger s p n × (is_forbidden forbidden n ≡ true)
