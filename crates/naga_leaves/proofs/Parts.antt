-- The parts of a type come before it.
use Rattle.std.proofs.Common.{◌≡◌, ◌<◌, ◌*◌, ltb, ℕ, List, Option, Some, None, All, Contains, refl, subst}
use Rattle.std.specs.List.{slice_get}
use Rattle.std.specs.Option.{option_map}
use Rattle.std.proofs.lemmas.Option.{cond_some, get_or_from_slice_get, none-some, same_Some, slice_get_within}
use Rattle.naga_ir.specs.Handles.{GlobalReferencesOk}
use Rattle.naga_ir.specs.ItemReferences.{GlobalLists}
use Rattle.naga_ir.proofs.ReferencesOfItems.{parts_come_before}
use Rattle.naga_ir.proofs.PartLemmas.{base_is, members_are}
use Rattle.naga_ir.specs.Parts.{parts}
use Rattle.naga_ir.specs.declared.types.«Type».{«Type»}
use Rattle.naga_ir.specs.declared.types.StructMember.{StructMember}
use Rattle.naga_ir.specs.declared.types.TypeInner.{TypeInner}
use Rattle.naga_ir.specs.declared.types.TypeInner.TheVariants.{Array, Struct}
use Rattle.naga_leaves.proofs.Members.{member_part}
use Rattle.naga_typing.specs.Leaves.{Elements, Part, part_at}

-- an element of a list of options
pub some_image : (members : List StructMember) (i : ℕ) (part : Part) (o : Option StructMember) → slice_get members i ≡ o → option_map member_part o ≡ Some part
    → (m : StructMember) × (slice_get members i ≡ Some m) × (member_part m ≡ part)
some_image members i part None e h = absurd (none-some part h)
some_image members i part (Some m) e h = (m, e, same_Some (member_part m) part h)

among_members : (inner : TypeInner) (members : List StructMember) (span i : ℕ) (m : StructMember) → inner ≡ Struct members span → slice_get members i ≡ Some m → Contains (parts inner) m.ty
among_members inner members span i m e at =
    let all : All (λ (m : StructMember). Contains (parts inner) m.ty) members = members_are (λ p. Contains (parts inner) p) inner members span (λ p h. h) e in
    member_of members i m all at
  where
    member_of : (members : List StructMember) (i : ℕ) (m : StructMember) → All (λ (m : StructMember). Contains (parts inner) m.ty) members → slice_get members i ≡ Some m → Contains (parts inner) m.ty
    member_of members i m all at =
        subst (λ (n : StructMember). Contains (parts inner) n.ty) (get_or_from_slice_get members i m m at) (all i m (slice_get_within members i m at))

-- a part is one of the types that `inner` names
pub part_is_named : (elements_of : Elements) (inner : TypeInner) (i : ℕ) (part : Part) → part_at elements_of inner i ≡ Some part → Contains (parts inner) part.ty
part_is_named elements_of (Array base size stride) i part h =
    let element : Part = record { ty = base; first = i * stride } in
    let is = cond_some (ltb i (elements_of size)) element part h in
    subst (λ (p : Part). Contains (parts (Array base size stride)) p.ty) is.1 (base_is (λ p. Contains (parts (Array base size stride)) p) (Array base size stride) base size stride (λ p h. h) refl)
part_is_named elements_of (Struct members span) i part h =
    let w = some_image members i part (slice_get members i) refl h in
    subst (λ (p : Part). Contains (parts (Struct members span)) p.ty) w.2 (among_members (Struct members span) members span i w.0 refl w.1)
part_is_named elements_of _ i part h = absurd (none-some part h)

module _ (g : GlobalLists) (ok : GlobalReferencesOk g) (elements_of : Elements) (t : ℕ) (x : «Type») (i : ℕ) (part : Part) where
  -- a part comes before the type that it is a part of
  pub part_comes_before : slice_get g.types t ≡ Some x → part_at elements_of x.inner i ≡ Some part → part.ty < t
  part_comes_before at h = parts_come_before g ok t x part.ty at (part_is_named elements_of x.inner i part h)
