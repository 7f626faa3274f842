-- What calls leave in their callers' buffers.
use Rattle.std.specs.Prelude.{◌≡◌, List, ◌++◌, drop, length}

-- `new` begins with `front`, and the rest of it is the rest of `old`
abbrev pub BeginsWith : {A : Type 0} → List A → List A → List A → Type 0
BeginsWith front old new = new ≡ front ++ drop (length front) old
