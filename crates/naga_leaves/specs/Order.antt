-- The order of paths.
use Rattle.std.specs.Prelude.{◌≡◌, ◌<◌, ◌⊎◌, ℕ, List, [], ◌∷◌, ⊤}

-- the second path comes at the first or after it in lexicographic order, in which a path precedes all that it begins
abbrev pub IsAtOrAfter : List ℕ → List ℕ → Type 0
IsAtOrAfter [] path = ⊤
IsAtOrAfter (i ∷ start) [] = ⊥
IsAtOrAfter (i ∷ start) (j ∷ path) = (i < j) ⊎ ((i ≡ j) × IsAtOrAfter start path)
