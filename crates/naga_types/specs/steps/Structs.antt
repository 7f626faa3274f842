-- A struct as the code validates it.
use Rattle.std.specs.Prelude.{◌≡◌, ◌<◌, ◌≤◌, All, ℕ, zero, suc, Bool, List, Option, drop, is_some, length, map, take}
use Rattle.std.specs.List.{enumerate_from}
use Rattle.std.specs.Option.{option_or}
use Rattle.std.specs.Result.{result_unwrap_or}
use Rattle.naga_ir.specs.declared.types.StructMember.{StructMember}
use Rattle.naga_types.specs.Checks.{first, first_error_or}
use Rattle.naga_types.specs.Layouts.{Layout, greatest_alignment, in_storage, in_uniform, member_layout_error, member_layout_errors}
use Rattle.naga_types.specs.StructRule.{source_of, source_type, type_of_source}
use Rattle.naga_types.specs.Surroundings.{Surroundings, info_at, surroundings}
use Rattle.naga_typing.specs.Layout.{greatest}
use Rattle.naga_types.specs.declared.info.TypeInfo.{TypeInfo}
use Rattle.naga_types.specs.declared.structs.SharedSpace.{SharedSpace}
use Rattle.naga_types.specs.declared.structs.SharedSpace.TheVariants.{Uniform, Storage}
use Rattle.naga_types.specs.declared.structs.Sources.{Sources}
use Rattle.naga_types.specs.declared.structs.StructType.{StructType}
use Rattle.naga_types.specs.steps.KnownTypes.{KnownBefore}

-- what the rule of a struct depends on
abbrev pub surroundings_of : StructType → Surroundings
surroundings_of x = surroundings x.ctx x.gctx

-- the types of the members of `x` precede it, and are known
abbrev pub MembersKnown : StructType → Type 0
MembersKnown x = KnownBefore (surroundings_of x) x.handle × All (λ (m : StructMember). m.ty < x.handle) x.members.now

-- the layout of a type in an address space that hosts share
abbrev pub layout_in : SharedSpace → TypeInfo → Layout
layout_in Uniform = in_uniform
layout_in Storage = in_storage

-- the alignment of a type with this info in `space`, and 1 if it has none there
abbrev pub alignment_in : SharedSpace → TypeInfo → ℕ
alignment_in space info = result_unwrap_or (layout_in space info) 1

-- what the layouts of all members of a struct in `space` come to: the first failure, or else their greatest alignment
abbrev pub checked_layouts : SharedSpace → StructType → Layout
checked_layouts space x =
    first_error_or (member_layout_errors (surroundings_of x) (layout_in space) x.handle x.members.now)
    (greatest_alignment (surroundings_of x) (layout_in space) x.members.now)

-- the first members of a struct fail nowhere in `space`: what fails first is among the members from `n` on, and `a` is
-- the greatest alignment of those before
pub record AreLaidOut (space : SharedSpace) (x : StructType) (n a : ℕ) : Type 0 where
  pub within : n ≤ length x.members.now
  pub left : first
      (map (member_layout_error (surroundings_of x) (layout_in space) x.handle)
      (enumerate_from n (drop n x.members.now)))
      ≡ first (member_layout_errors (surroundings_of x) (layout_in space) x.handle x.members.now)
  pub so_far : a ≡ greatest
      (map (λ (m : StructMember). alignment_in space (info_at (surroundings_of x) m.ty)) (take n x.members.now))

-- the sources of blending among members
abbrev pub sources_of : List StructMember → Sources
sources_of members = record { first = source_type 0 members; second = source_type 1 members }

-- the type of the source of blending that has this number
abbrev pub noted_source : Sources → ℕ → Option ℕ
noted_source sources zero = sources.first
noted_source sources (suc n) = sources.second

-- whether a source of blending is noted
abbrev pub is_noted : Sources → ℕ → Bool
is_noted sources source = is_some (noted_source sources source)

-- the sources of blending with a member more
abbrev pub with_member : Sources → StructMember → Sources
with_member sources m = record {
  first = option_or sources.first (type_of_source 0 m.ty (source_of m.binding));
  second = option_or sources.second (type_of_source 1 m.ty (source_of m.binding));
}
