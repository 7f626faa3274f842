-- The laws of types hold in accepted modules.
use Rattle.std.proofs.Common.{◌≡◌, ◌+◌, ◌*◌, ℕ, List, Option, Some, None, IfSome, slice_get, refl}
use Rattle.naga_ir.specs.ItemReferences.{GlobalLists, global_lists}
use Rattle.naga_ir.specs.declared.ir.Module.{Module}
use Rattle.naga_types.proofs.HostLaws.{constructible-array, constructible-struct, host-alignments_inside, host-storage, host-uniform, struct-flags}
use Rattle.naga_types.proofs.HostLeaves.{leaves_of_accepted}
use Rattle.naga_types.specs.FlagsOfParts.{IsConstructibleByElements, IsConstructibleByMembers, MembersHaveFlags}
use Rattle.naga_types.specs.HostLayouts.{HasStorageByLeaves, HasUniformByLeaves, HaveLeafAlignments, IsForHosts}
use Rattle.naga_types.specs.HostLeaves.{IsLaidOutForHosts, LeavesAreSeparate, resolved_for_hosts, sized_for_hosts}
use Rattle.naga_types.specs.declared.info.TypeInfo.{TypeInfo}
use Rattle.naga_typing.specs.Leaves.{AreSeparate, EndsInArray, size_at_index}
use Rattle.naga_valid.specs.Accepted.{AreValidTypes}
use Rattle.naga_valid.specs.State.{Settings}

-- what holds of an info that is there holds if it is there
of-info : (o : Option TypeInfo) (P : TypeInfo → Type 0) → ((info : TypeInfo) → o ≡ Some info → P info) → IfSome o P
of-info None P h = tt
of-info (Some info) P h = h info refl

module _ (m : Module) (settings : Settings) (infos : List TypeInfo) (valid : AreValidTypes m settings infos) (t : ℕ) where
  abbrev g : GlobalLists
  g = global_lists m

  separate : LeavesAreSeparate g infos t
  separate = leaves_of_accepted m settings.capabilities settings.resolved valid.layouts infos valid.accepted t

  -- the leaves of a type of a fixed size
  pub sized_leaves : (n : ℕ) → IsLaidOutForHosts g infos t sized_for_hosts → AreSeparate g n t (size_at_index g t)
  sized_leaves n h = separate.sized h n

  -- the leaves of a type that ends in a runtime-sized array
  pub leaves_by_length : (n : ℕ) → IsLaidOutForHosts g infos t resolved_for_hosts → (first stride : ℕ) → EndsInArray g t first stride → AreSeparate g n t (first + n * stride)
  leaves_by_length n h first stride ends = separate.runtime_sized h first stride ends n

  have_alignments : (info : TypeInfo) → slice_get infos t ≡ Some info → IsForHosts info → HaveLeafAlignments g t
  have_alignments = host-alignments_inside m settings.capabilities settings.resolved valid.layouts infos valid.accepted t

  -- the storage layout of data that hosts may share
  pub storage_by_leaves : IfSome (slice_get infos t) (λ (info : TypeInfo). IsForHosts info → HaveLeafAlignments g t × HasStorageByLeaves g t info)
  storage_by_leaves = of-info (slice_get infos t) _ (λ info at for_hosts. (have_alignments info at for_hosts, host-storage m settings.capabilities settings.resolved valid.layouts infos valid.accepted t info at for_hosts))

  -- the uniform layout of data that hosts may share
  pub uniform_by_leaves : IfSome (slice_get infos t) (λ (info : TypeInfo). IsForHosts info → HaveLeafAlignments g t × HasUniformByLeaves g infos t info)
  uniform_by_leaves = of-info (slice_get infos t) _ (λ info at for_hosts. (have_alignments info at for_hosts, host-uniform m settings.capabilities settings.resolved valid.layouts infos valid.accepted t info at for_hosts))

  -- the flags of the members of a struct
  pub flags_of_members : IfSome (slice_get infos t) (MembersHaveFlags g infos t)
  flags_of_members = of-info (slice_get infos t) (MembersHaveFlags g infos t) (λ info at. struct-flags m settings.capabilities settings.resolved valid.layouts infos valid.accepted t info at)

  -- when a struct is constructible
  pub constructible_struct : IfSome (slice_get infos t) (IsConstructibleByMembers g infos t)
  constructible_struct = of-info (slice_get infos t) (IsConstructibleByMembers g infos t) (λ info at. constructible-struct m settings.capabilities settings.resolved valid.layouts infos valid.accepted t info at)

  -- when an array is
  pub constructible_array : IfSome (slice_get infos t) (IsConstructibleByElements g infos t)
  constructible_array = of-info (slice_get infos t) (IsConstructibleByElements g infos t) (λ info at. constructible-array m settings.capabilities settings.resolved valid.layouts infos valid.accepted t info at)
