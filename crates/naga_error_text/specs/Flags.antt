-- The texts of sets of flags.
use Rattle.std.specs.Prelude.{ℕ, List, [], ◌∷◌, ◌++◌, ◌==◌, bit_and, codes, if◌then◌else◌, map}
use Rattle.std.specs.List.{concat}

-- the flags of types: the bit of each, the bits of those before it together, and its name
abbrev pub type_flags : List (ℕ × ℕ × List ℕ)
type_flags =
    (1, 0, codes "DATA") ∷ (2, 1, codes "SIZED") ∷ (4, 3, codes "COPY") ∷ (8, 7, codes "IO_SHAREABLE") ∷
    (16, 15, codes "HOST_SHAREABLE") ∷ (32, 31, codes "CREATION_RESOLVED") ∷ (64, 63, codes "ARGUMENT") ∷
    (128, 127, codes "CONSTRUCTIBLE") ∷ []

-- what stands before a flag, of whose earlier flags a set has these
abbrev pub separator : ℕ → List ℕ
separator earlier = if earlier == 0 then [] else codes " | "

-- what the text of the set `n` says of a flag, of which `row` has the bit, those before it and the name
abbrev pub flag_text : ℕ → (ℕ × ℕ × List ℕ) → List ℕ
flag_text n row = if bit_and n row.0 == 0 then [] else separator (bit_and n row.1) ++ row.2

-- the text of the set `n` of flags of types: their names, or `0x0` of none
abbrev pub flags_text : ℕ → List ℕ
flags_text n = if n == 0 then codes "0x0" else concat (map (flag_text n) type_flags)
