-- The layouter's alignment of data that hosts may share is the one that its leaves see.
use Rattle.std.proofs.Common.{◌≡◌, ◌<◌, ℕ, zero, suc, true, Contains, Some, get_or, length, refl, sym, subst, ap, ◌∙◌, arith}
use Rattle.naga_flags.specs.Flags.{has}
use Rattle.naga_ir.specs.ItemReferences.{GlobalLists}
use Rattle.naga_ir.proofs.PartLemmas.{base_is, members_are}
use Rattle.naga_ir.specs.Parts.{parts}
use Rattle.naga_ir.specs.declared.types.TypeInner.{TypeInner}
use Rattle.naga_ir.specs.declared.types.TypeInner.TheVariants as form
use Rattle.naga_types.proofs.CheckedTypes.{CheckedTypes, alignment_is, alignment_of_type, info_of, known, known_is, own_form, parts_before}
use Rattle.naga_types.proofs.HostForms.{HostForm, host-form, leaf, array, struct, struct-has_members}
use Rattle.naga_types.specs.HostLayouts.{IsForHosts, data_for_hosts}
use Rattle.naga_types.specs.Surroundings.{Surroundings, flags_at}
use Rattle.naga_types.specs.declared.info.TypeInfo.{TypeInfo}
use Rattle.naga_typing.proofs.LeafAlignments.{alignment-of_array, alignment-of_itself, alignment-of_leaf, alignment-of_struct}
use Rattle.naga_typing.proofs.Layouts.{alignments_are_powers}
use Rattle.naga_typing.proofs.Powers.{power-positive}
use Rattle.naga_typing.specs.Layout.{alignment_of}
use Rattle.naga_typing.specs.Leaves.{IsLeafAlignment, inner_at}

-- all types that `inner` names precede an index
abbrev pub PartsBefore : ℕ → TypeInner → Type 0
PartsBefore t inner = (p : ℕ) → Contains (parts inner) p → p < t

module _ (w : CheckedTypes) where
  -- the lists of the types
  abbrev g : GlobalLists
  g = w.lists

  -- the alignment of the layout of a type
  abbrev al : ℕ → ℕ
  al = alignment_of_type w

  -- by the leaf alignments of its parts
  by_parts : (s : Surroundings) (t : ℕ) (info : TypeInfo) (inner : TypeInner) → inner_at g t ≡ Some inner → PartsBefore t inner
      → ((p : ℕ) → p < t → has (flags_at s p) data_for_hosts ≡ true → IsLeafAlignment g p (al p))
      → HostForm s t info inner → IsLeafAlignment g t (alignment_of w.layouts inner)
  by_parts s t info _ is before part (leaf inner is_one uniform storage) = subst (IsLeafAlignment g t) (alignment-of_itself w.layouts inner is_one) (alignment-of_leaf g t inner is is_one)
  by_parts s t info _ is before part (array base size stride flags given) =
      alignment-of_array g t base size stride (al base) is (part base (base_is (λ p. p < t) (form.Array base size stride) base size stride before refl) flags)
  by_parts s t info _ is before part (struct members span kept flags given) =
      let named = members_are (λ p. p < t) (form.Struct members span) members span before refl in
      alignment-of_struct g t members span al is (struct-has_members s members span kept)
      (λ k d within. let ty = (get_or members k d).ty in power-positive (al ty) (alignments_are_powers g w.layouts w.laid_out ty))
      (λ k d within. part (get_or members k d).ty (named k d within) (flags k d within))

  below : (n t : ℕ) → t < n → t < length w.infos → IsForHosts (info_of w t) → IsLeafAlignment g t (al t)
  below zero t under within for_hosts = absurd (omega (arith, under))
  below (suc n) t under within for_hosts =
      let j = w.each_accepted t within in
      subst (IsLeafAlignment g t) (sym (alignment_is w t j j.ty.inner (own_form w t j)))
      (by_parts (known w t j) t (info_of w t) j.ty.inner (own_form w t j) (parts_before w t j)
      (λ p before flags. below n p (omega (arith, before, under)) (omega (arith, before, within)) (ap (λ (x : TypeInfo). has x.flags.0 data_for_hosts) (sym (known_is w t j p before)) ∙ flags))
      (host-form (known w t j) t (info_of w t) for_hosts j.ty.inner j.by_rule))

  -- the leaf alignment of data that hosts may share is the layouter's
  pub leaf-alignment : (t : ℕ) → t < length w.infos → IsForHosts (info_of w t) → IsLeafAlignment g t (al t)
  leaf-alignment t within for_hosts = below (suc t) t (omega arith) within for_hosts
