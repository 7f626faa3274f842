-- What a search for a forbidden number notes.
use Rattle.std.specs.List.{All}
use Rattle.std.specs.Prelude.{◌%◌, ℕ, List, Option, IfSome}
use Rattle.naga_info.specs.Integers.{Scope}
use Rattle.naga_operator_exprs.specs.Integers.{ContainsForbidden}
use Rattle.naga_operator_exprs.specs.declared.integers.Forbidden.{Forbidden}
use Rattle.naga_info.specs.declared.sources.Place.{Place}
use Rattle.naga_info.specs.declared.sources.Place.TheVariants.{InFunction, InModule}

-- how many compositions a search notes
abbrev pub note_count : ℕ
note_count = 16

-- where a search notes the composition at a place
abbrev pub note_of : Place → ℕ
note_of (InFunction e) = e % note_count
note_of (InModule e) = e % note_count

-- no forbidden number is in the expressions at the places in `noted`
abbrev pub HaveNone : Scope → Forbidden → List (Option Place) → Type 0
HaveNone s forbidden noted = All (λ note. IfSome note (λ p. ContainsForbidden s forbidden p → ⊥)) noted
