-- What the parts of `Layouter::update` and `try_size` rely on.
use Rattle.std.specs.Prelude.{ℕ, List, Contains, length, ◌<◌, ⊤}
use Rattle.naga_ir.specs.Parts.{parts}
use Rattle.naga_ir.specs.declared.types.TypeInner.{TypeInner}
use Rattle.naga_ir.specs.declared.types.TypeInner.TheVariants.{Array}
use Rattle.naga_typing.specs.declared.layouter.TypeLayout.{TypeLayout}

-- `inner` is not an array
abbrev pub IsNotArray : TypeInner → Type 0
IsNotArray (Array base size stride) = ⊥
IsNotArray _ = ⊤

-- the types that `inner` names are among the types laid out so far
abbrev pub PartsLaidOut : List TypeLayout → TypeInner → Type 0
PartsLaidOut layouts inner = (p : ℕ) → Contains (parts inner) p → p < length layouts
