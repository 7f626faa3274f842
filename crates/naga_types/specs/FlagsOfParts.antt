-- The flags of structs and arrays, by the flags of their members and elements.
use Rattle.std.specs.Prelude.{◌≡◌, ◌↔◌, ℕ, true, List, Some, All, Contains, bit_and, slice_get}
use Rattle.std.specs.declared.num.NonZeroU32.{NonZeroU32}
use Rattle.naga_flags.specs.Bits.{CONSTRUCTIBLE, IO_SHAREABLE}
use Rattle.naga_flags.specs.Flags.{has}
use Rattle.naga_ir.specs.ItemReferences.{GlobalLists}
use Rattle.naga_ir.specs.declared.types.ArraySize.{ArraySize}
use Rattle.naga_ir.specs.declared.types.ArraySize.TheVariants.{Constant}
use Rattle.naga_ir.specs.declared.types.StructMember.{StructMember}
use Rattle.naga_ir.specs.declared.types.TypeInner.TheVariants.{Array, Struct}
use Rattle.naga_types.specs.Surroundings.{info_in}
use Rattle.naga_types.specs.declared.info.TypeInfo.{TypeInfo}
use Rattle.naga_typing.specs.Leaves.{inner_at}

-- if the type of index `t` is a struct, the type of each member has all flags in `info`, except `IO_SHAREABLE`
abbrev pub MembersHaveFlags : GlobalLists → List TypeInfo → ℕ → TypeInfo → Type 0
MembersHaveFlags g infos t info =
    (members : List StructMember) (span : ℕ) (m : StructMember) (flags : ℕ) → inner_at g t ≡ Some (Struct members span)
    → Contains members m → bit_and IO_SHAREABLE flags ≡ 0 → has info.flags.0 flags ≡ true
    → has (info_in (slice_get infos m.ty)).flags.0 flags ≡ true

-- `info` has the flag `CONSTRUCTIBLE`
abbrev pub IsConstructible : TypeInfo → Type 0
IsConstructible info = has info.flags.0 CONSTRUCTIBLE ≡ true

-- the info of the type of index `t`, among `infos`, has the flag `CONSTRUCTIBLE`
abbrev pub IsConstructibleAt : List TypeInfo → ℕ → Type 0
IsConstructibleAt infos t = IsConstructible (info_in (slice_get infos t))

-- `size` is a constant
abbrev pub IsConstantSize : ArraySize → Type 0
IsConstantSize size = (n : NonZeroU32) × (size ≡ Constant n)

-- if the type of index `t` is a struct, its `info` is constructible exactly if the types of all members are, by `infos`
abbrev pub IsConstructibleByMembers : GlobalLists → List TypeInfo → ℕ → TypeInfo → Type 0
IsConstructibleByMembers g infos t info =
    (members : List StructMember) (span : ℕ) → inner_at g t ≡ Some (Struct members span)
    → IsConstructible info ↔ All (λ (m : StructMember). IsConstructibleAt infos m.ty) members

-- if the type of index `t` is an array, its `info` is constructible exactly if its size is constant and the type of its
-- elements is constructible, by `infos`
abbrev pub IsConstructibleByElements : GlobalLists → List TypeInfo → ℕ → TypeInfo → Type 0
IsConstructibleByElements g infos t info =
    (base : ℕ) (size : ArraySize) (stride : ℕ) → inner_at g t ≡ Some (Array base size stride)
    → IsConstructible info ↔ (IsConstantSize size × IsConstructibleAt infos base)
