-- Lists of which no two items are equal.
use Rattle.std.specs.Prelude.{◌≡◌, ℕ, List, Some, slice_get}

-- equal items of `xs` have equal indices
abbrev pub AllDistinct : {X : Type 0} → List X → Type 0
AllDistinct {X} xs = (i j : ℕ) (x : X) → slice_get xs i ≡ Some x → slice_get xs j ≡ Some x → i ≡ j
