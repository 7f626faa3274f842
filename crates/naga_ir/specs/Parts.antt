-- What a type refers to, by its variant.
use Rattle.std.specs.Prelude.{ℕ, List, [], ◌∷◌, map, Option, Some, None}
use Rattle.naga_ir.specs.declared.types.TypeInner.{TypeInner}
use Rattle.naga_ir.specs.declared.types.TypeInner.TheVariants as inner
use Rattle.naga_ir.specs.declared.types.StructMember.{StructMember}
use Rattle.naga_ir.specs.declared.types.ArraySize.{ArraySize}
use Rattle.naga_ir.specs.declared.types.ArraySize.TheVariants.{Constant, Pending, Dynamic}

-- the override that gives the number of elements
abbrev pub pending : ArraySize → Option ℕ
pending (Pending o) = Some o
pending (Constant n) = None
pending Dynamic = None

-- the types that a type names, in the order of its fields
unfoldable pub parts : TypeInner → List ℕ
parts (inner.Pointer base space) = base ∷ []
parts (inner.Array base size stride) = base ∷ []
parts (inner.Struct members span) = map (λ (m : StructMember). m.ty) members
parts (inner.BindingArray base size) = base ∷ []
parts _ = []

-- the override that sizes a type
unfoldable pub size_override : TypeInner → Option ℕ
size_override (inner.Array base size stride) = pending size
size_override (inner.BindingArray base size) = pending size
size_override _ = None
