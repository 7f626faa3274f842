-- All types inside data that hosts may share are such data, and have leaf alignments.
use Rattle.std.proofs.Common.{◌≡◌, ◌<◌, ℕ, true, List, Some, Contains, length, refl, sym, ap, ◌∙◌, arith}
use Rattle.naga_arena.proofs.Elements.{all_at}
use Rattle.naga_flags.specs.Flags.{has}
use Rattle.naga_ir.specs.declared.types.ArraySize.{ArraySize}
use Rattle.naga_ir.specs.declared.types.StructMember.{StructMember}
use Rattle.naga_ir.specs.declared.types.TypeInner.TheVariants.{Array, Struct}
use Rattle.naga_types.proofs.CheckedTypes.{Judged, CheckedTypes, alignment_of_type, array_has, base_before, info_of, known, known_is, member_before, rule_is}
use Rattle.naga_types.proofs.HostAlignments.{leaf-alignment}
use Rattle.naga_types.proofs.HostForms.{struct_info}
use Rattle.naga_types.proofs.KeptConditions.{granted-value}
use Rattle.naga_types.proofs.StructFlags.{has-struct_flags}
use Rattle.naga_types.specs.HostLayouts.{HaveLeafAlignments, IsForHosts, data_for_hosts}
use Rattle.naga_types.specs.Surroundings.{Surroundings, flags_at}
use Rattle.naga_types.specs.declared.info.TypeInfo.{TypeInfo}
use Rattle.naga_typing.proofs.LeafAlignments.{place-in}
use Rattle.naga_typing.specs.Leaves.{IsInside, inner_at, itself, element, member}

module _ (w : CheckedTypes) where
  -- a type is data that hosts may share
  abbrev pub IsHostType : ℕ → Type 0
  IsHostType t = (t < length w.infos) × IsForHosts (info_of w t)

  module _ (t : ℕ) (h : IsHostType t) where
    abbrev j : Judged w t
    j = w.each_accepted t h.0

    abbrev s : Surroundings
    s = known w t j

    part : (p : ℕ) → p < t → has (flags_at s p) data_for_hosts ≡ true → IsHostType p
    part p before flags = (omega (arith, before, h.0), ap (λ (x : TypeInfo). has x.flags.0 data_for_hosts) (sym (known_is w t j p before)) ∙ flags)

    element_of : (base : ℕ) (size : ArraySize) (stride : ℕ) → inner_at w.lists t ≡ Some (Array base size stride) → IsHostType base
    element_of base size stride is =
        part base (base_before w t j base size stride is) (array_has s t base size stride (info_of w t) (rule_is w t j (Array base size stride) is) data_for_hosts h.1).0

    member_of : (members : List StructMember) (span : ℕ) (m : StructMember) → inner_at w.lists t ≡ Some (Struct members span) → Contains members m → IsHostType m.ty
    member_of members span m is among =
        let given = granted-value _ (struct_info s t members span) (info_of w t) (rule_is w t j (Struct members span) is) in
        let each = has-struct_flags s members data_for_hosts refl (ap (λ (x : TypeInfo). has x.flags.0 data_for_hosts) given ∙ h.1) in
        let place = place-in members m among in
        part m.ty (member_before w t j members span place.0 m is place.1) (all_at (λ (x : StructMember). has (flags_at s x.ty) data_for_hosts ≡ true) members place.0 m each place.1)

  -- types inside such data are such data
  pub inside : (t u : ℕ) → IsInside w.lists t u → IsHostType t → IsHostType u
  inside t _ itself h = h
  inside t _ (element u base size stride i is) h = element_of u (inside t u i h) base size stride is
  inside t _ (member u members span m i is among) h = member_of u (inside t u i h) members span m is among

  -- all types inside data that hosts may share have leaf alignments
  pub leaf-alignments_inside : (t : ℕ) → IsHostType t → HaveLeafAlignments w.lists t
  leaf-alignments_inside t h u i = let x = inside t u i h in (alignment_of_type w u, leaf-alignment w u x.0 x.1)
