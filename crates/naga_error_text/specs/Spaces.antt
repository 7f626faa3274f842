-- The texts of address spaces.
use Rattle.std.specs.Prelude.{ℕ, Bool, true, false, List, [], ◌∷◌, ◌==◌, codes}
use Rattle.std.specs.List.{concat}
use Rattle.naga_error_text.specs.declared.names.Names.TheVariants.{Accesses, Spaces}
use Rattle.naga_error_text.specs.declared.pieces.Values.{Values}
use Rattle.naga_error_text.specs.Classes.{two_values}
use Rattle.naga_error_text.specs.Names.{named}

-- a number is that of storage
abbrev pub is_storage : ℕ → Bool
is_storage n = n == 4

-- what the text of storage says, or of another address space: its number and what may be done with it are the first two
-- of the values `v`
abbrev pub space_parts : Bool → Values → List (List ℕ)
space_parts true v = codes "Storage { access: " ∷ named Accesses v.second ∷ codes " }" ∷ []
space_parts false v = named Spaces v.first ∷ []

-- the text of the address space with the number `n`, with which may be done what the number `a` says
abbrev pub space_text : (n a : ℕ) → List ℕ
space_text n a = concat (space_parts (is_storage n) (two_values n a))
