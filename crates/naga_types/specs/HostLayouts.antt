-- The layouts of data that hosts may share, by the alignments that its leaves have.
use Rattle.std.specs.Prelude.{◌≡◌, ◌+◌, ◌%◌, ◌≤◌, ◌↔◌, max, suc, ℕ, true, List, [], ◌∷◌, Option, Some, None, Contains, IsOk, Ok, slice_get, if◌then◌else◌}
use Rattle.naga_flags.specs.Bits.{DATA, HOST_SHAREABLE, SIZED, union_of}
use Rattle.naga_flags.specs.Flags.{has}
use Rattle.naga_ir.specs.ItemReferences.{GlobalLists}
use Rattle.naga_ir.specs.declared.types.ArraySize.{ArraySize}
use Rattle.naga_ir.specs.declared.types.StructMember.{StructMember}
use Rattle.naga_ir.specs.declared.types.TypeInner.{TypeInner}
use Rattle.naga_ir.specs.declared.types.TypeInner.TheVariants as form
use Rattle.naga_types.specs.Layouts.{min_uniform, rounded_up}
use Rattle.naga_types.specs.Surroundings.{info_in}
use Rattle.naga_types.specs.declared.info.TypeInfo.{TypeInfo}
use Rattle.naga_typing.specs.Leaves.{IsInside, IsLeafAlignment, inner_at, is_leaf}

-- what data is marked with that hosts may share
abbrev pub data_for_hosts : ℕ
data_for_hosts = union_of (DATA ∷ HOST_SHAREABLE ∷ [])

-- `info` is of data that hosts may share
abbrev pub IsForHosts : TypeInfo → Type 0
IsForHosts info = has info.flags.0 data_for_hosts ≡ true

-- `P` holds of the leaf alignment of the type of index `t`
abbrev pub OfLeafAlignment : GlobalLists → ℕ → (ℕ → Type 0) → Type 0
OfLeafAlignment g t P = (a : ℕ) → IsLeafAlignment g t a → P a

-- all types inside the type of index `t` have leaf alignments
abbrev pub HaveLeafAlignments : GlobalLists → ℕ → Type 0
HaveLeafAlignments g t = (u : ℕ) → IsInside g t u → (a : ℕ) × IsLeafAlignment g u a

-- the alignment of a type in uniform buffers, by its leaf alignment: at least 16, unless it is a leaf
abbrev pub uniform_alignment_in : Option TypeInner → ℕ → ℕ
uniform_alignment_in None a = a
uniform_alignment_in (Some inner) a = if is_leaf inner then a else max a min_uniform

-- the alignment of the type of index `t` in uniform buffers, by its leaf alignment
abbrev pub uniform_alignment : GlobalLists → ℕ → ℕ → ℕ
uniform_alignment g t = uniform_alignment_in (inner_at g t)

-- if the type of index `t` is a struct, its span is a multiple of its leaf alignment, and each offset of the leaf
-- alignment of the member's type; if it is an array, its stride is a multiple of the leaf alignment of its base
pub record IsStorageAligned (g : GlobalLists) (t : ℕ) : Type 0 where
  pub of_span : (members : List StructMember) (span : ℕ) → inner_at g t ≡ Some (form.Struct members span)
      → OfLeafAlignment g t (λ a. span % a ≡ 0)
  pub of_offset : (members : List StructMember) (span : ℕ) (m : StructMember)
      → inner_at g t ≡ Some (form.Struct members span) → Contains members m
      → OfLeafAlignment g m.ty (λ a. m.offset % a ≡ 0)
  pub of_stride : (base : ℕ) (size : ArraySize) (stride : ℕ) → inner_at g t ≡ Some (form.Array base size stride)
      → OfLeafAlignment g base (λ a. stride % a ≡ 0)

-- the type of index `t` has a storage layout in `info` exactly if all types inside it are aligned as
-- `IsStorageAligned` says, and then the layout is its leaf alignment
pub record HasStorageByLeaves (g : GlobalLists) (t : ℕ) (info : TypeInfo) : Type 0 where
  pub exactly : IsOk info.storage_layout ↔ ((u : ℕ) → IsInside g t u → IsStorageAligned g u)
  pub alignment : IsOk info.storage_layout → OfLeafAlignment g t (λ a. info.storage_layout ≡ Ok a)

-- if the type of index `t` is a struct, its span is a multiple of its leaf alignment, each member has a fixed size and
-- an offset that is a multiple of the uniform alignment of its type, and a member after a struct begins after the
-- struct's span, rounded up to a multiple of 16; if it is an array, its stride is a multiple of its uniform alignment
pub record IsUniformAligned (g : GlobalLists) (infos : List TypeInfo) (t : ℕ) : Type 0 where
  pub of_span : (members : List StructMember) (span : ℕ) → inner_at g t ≡ Some (form.Struct members span)
      → OfLeafAlignment g t (λ a. span % a ≡ 0)
  pub of_offset : (members : List StructMember) (span : ℕ) (m : StructMember)
      → inner_at g t ≡ Some (form.Struct members span) → Contains members m
      → OfLeafAlignment g m.ty (λ a. m.offset % uniform_alignment g m.ty a ≡ 0)
  pub of_size : (members : List StructMember) (span : ℕ) (m : StructMember)
      → inner_at g t ≡ Some (form.Struct members span) → Contains members m
      → has (info_in (slice_get infos m.ty)).flags.0 SIZED ≡ true
  pub of_room : (members : List StructMember) (span i : ℕ) (m next : StructMember) (inside : List StructMember)
      (room : ℕ)
      → inner_at g t ≡ Some (form.Struct members span) → slice_get members i ≡ Some m
      → slice_get members (suc i) ≡ Some next → inner_at g m.ty ≡ Some (form.Struct inside room)
      → m.offset + rounded_up room ≤ next.offset
  pub of_stride : (base : ℕ) (size : ArraySize) (stride : ℕ) → inner_at g t ≡ Some (form.Array base size stride)
      → OfLeafAlignment g t (λ a. stride % uniform_alignment g t a ≡ 0)

-- the type of index `t` has a uniform layout in `info` exactly if all types inside it are aligned as
-- `IsUniformAligned` says, and then the layout is its uniform alignment
pub record HasUniformByLeaves (g : GlobalLists) (infos : List TypeInfo) (t : ℕ) (info : TypeInfo) : Type 0 where
  pub exactly : IsOk info.uniform_layout ↔ ((u : ℕ) → IsInside g t u → IsUniformAligned g infos u)
  pub alignment : IsOk info.uniform_layout
      → OfLeafAlignment g t (λ a. info.uniform_layout ≡ Ok (uniform_alignment g t a))
