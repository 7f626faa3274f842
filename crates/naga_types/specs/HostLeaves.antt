-- What hosts may rely on of the leaves of types whose values they share.
use Rattle.std.specs.Prelude.{◌≡◌, ◌+◌, ◌*◌, ◌%◌, ◌⊎◌, ℕ, true, List, [], ◌∷◌, Some, IfOk, IsOk, slice_get}
use Rattle.naga_flags.specs.Bits.{CREATION_RESOLVED, DATA, HOST_SHAREABLE, SIZED, union_of}
use Rattle.naga_flags.specs.Flags.{has}
use Rattle.naga_ir.specs.ItemReferences.{GlobalLists}
use Rattle.naga_types.specs.HostLayouts.{data_for_hosts}
use Rattle.naga_types.specs.declared.info.TypeInfo.{TypeInfo}
use Rattle.naga_typing.specs.Leaves.{AreSeparate, EndsInArray, LeafBytes, elements, leaf_at, size_at_index}

-- the type of index `t` has all of `flags`, and a layout in one of the address spaces
pub record IsLaidOutForHosts (g : GlobalLists) (infos : List TypeInfo) (t flags : ℕ) : Type 0 where
  pub info : TypeInfo
  pub info_is : slice_get infos t ≡ Some info
  pub has_flags : has info.flags.0 flags ≡ true
  pub has_layout : IsOk info.uniform_layout ⊎ IsOk info.storage_layout

-- what data whose size the module or an override gives is marked with if hosts may share it
abbrev pub sized_for_hosts : ℕ
sized_for_hosts = union_of (DATA ∷ SIZED ∷ HOST_SHAREABLE ∷ [])

-- what data is marked with if hosts may share it, and no override decides its size
abbrev pub resolved_for_hosts : ℕ
resolved_for_hosts = union_of (DATA ∷ CREATION_RESOLVED ∷ HOST_SHAREABLE ∷ [])

-- `number` is a multiple of the alignment of each leaf of the type of index `t`
abbrev pub AlignsLeaves : GlobalLists → ℕ → ℕ → Type 0
AlignsLeaves g t number =
    (n : ℕ) (path : List ℕ) (leaf : LeafBytes) → leaf_at g (elements g n) t path ≡ Some leaf
    → number % leaf.alignment ≡ 0

-- each layout of a type that hosts may share is a multiple of the alignments of its leaves; these are aligned and share
-- no byte, and end within its size, or where the elements of the runtime-sized array end that it ends in
pub record LeavesAreSeparate (g : GlobalLists) (infos : List TypeInfo) (t : ℕ) : Type 0 where
  pub layouts : (laid_out : IsLaidOutForHosts g infos t data_for_hosts)
      → IfOk laid_out.info.uniform_layout (AlignsLeaves g t) × IfOk laid_out.info.storage_layout (AlignsLeaves g t)
  pub sized : IsLaidOutForHosts g infos t sized_for_hosts → (n : ℕ) → AreSeparate g n t (size_at_index g t)
  pub runtime_sized : IsLaidOutForHosts g infos t resolved_for_hosts → (first stride : ℕ) → EndsInArray g t first stride
      → (n : ℕ) → AreSeparate g n t (first + n * stride)

-- the leaves of each type are as hosts may rely on
abbrev pub AllLeavesAreSeparate : GlobalLists → List TypeInfo → Type 0
AllLeavesAreSeparate g infos = (t : ℕ) → LeavesAreSeparate g infos t
