-- The operands of an expression, some of whose fields may have none.
use Rattle.std.specs.Prelude.{List, Option, option_to_list}
use Rattle.std.specs.List.{flat_map}

-- the values of those options that have one, in order
abbrev pub present : {A : Type 0} → List (Option A) → List A
present options = flat_map option_to_list options
