-- Data that hosts may share has a layout in storage buffers if it has one in uniform buffers.
use Rattle.std.proofs.Common.{◌≡◌, ◌%◌, ◌≤◌, ℕ, Bool, true, false, max, Option, Some, None, Ok, if◌then◌else◌, sym, ap, ◌∙◌, arith}
use Rattle.std.specs.Int.{is_power_of_two}
use Rattle.std.proofs.lemmas.Nat.Gcd.{dvd_of_mod-eq-zero, dvd_refl, dvd_trans, mod-eq-zero_of_dvd}
use Prim.Native.Nat.{◌∣◌}
use Rattle.naga_ir.specs.declared.types.TypeInner.{TypeInner}
use Rattle.naga_types.proofs.ByLeaves.{of-leaf_alignment}
use Rattle.naga_types.proofs.HostAlignments.{leaf-alignment}
use Rattle.naga_types.proofs.HostInside.{IsHostType, inside}
use Rattle.naga_types.proofs.CheckedTypes.{CheckedTypes, alignment_of_type, info_of}
use Rattle.naga_types.proofs.PowersDivide.{greater_power, power_of_16, powers_divide}
use Rattle.naga_types.proofs.StorageLayouts.{storage-exactly}
use Rattle.naga_types.proofs.UniformLayouts.{uniform-exactly}
use Rattle.naga_types.specs.HostLayouts.{IsStorageAligned, IsUniformAligned, uniform_alignment, uniform_alignment_in}
use Rattle.naga_types.specs.Layouts.{in_storage, in_uniform, min_uniform}
use Rattle.naga_typing.proofs.Layouts.{alignments_are_powers}
use Rattle.naga_typing.proofs.LeafAlignments.{alignment-of_array}
use Rattle.naga_typing.specs.Leaves.{element, inner_at, is_leaf, itself, member}

-- a multiple of a uniform alignment is one of the leaf alignment
multiple-of_uniform : (found : Option TypeInner) (a n : ℕ) → is_power_of_two a ≡ true → n % uniform_alignment_in found a ≡ 0 → n % a ≡ 0
multiple-of_uniform None a n power h = h
multiple-of_uniform (Some inner) a n power h = by (is_leaf inner) h
  where
    above : a ≤ max a min_uniform
    above = omega arith

    by : (b : Bool) → n % (if b then a else max a min_uniform) ≡ 0 → n % a ≡ 0
    by true e = e
    by false e =
        mod-eq-zero_of_dvd a (dvd_trans a (powers_divide a (max a min_uniform) above power (greater_power a min_uniform power power_of_16)) (dvd_of_mod-eq-zero (max a min_uniform) e))

module _ (w : CheckedTypes) where
  -- the alignment of the layout of a type
  abbrev al : ℕ → ℕ
  al = alignment_of_type w

  -- the alignments of layouts are powers of two
  pub powers : (t : ℕ) → is_power_of_two (al t) ≡ true
  powers = alignments_are_powers w.lists w.layouts w.laid_out

  aligned_if_uniform : (t : ℕ) → IsHostType w t → IsUniformAligned w.lists w.infos t → IsStorageAligned w.lists t
  aligned_if_uniform t h x = record {
    of_span = x.of_span;
    of_offset = λ members span m is among.
        let host = inside w t m.ty (member t members span m itself is among) h in
        let its = leaf-alignment w m.ty host.0 host.1 in
        of-leaf_alignment w.lists (λ a. m.offset % a ≡ 0) m.ty (al m.ty) its (multiple-of_uniform (inner_at w.lists m.ty) (al m.ty) m.offset (powers m.ty) (x.of_offset members span m is among (al m.ty) its));
    of_stride = λ base size stride is.
        let host = inside w t base (element t base size stride itself is) h in
        let its = leaf-alignment w base host.0 host.1 in
        of-leaf_alignment w.lists (λ a. stride % a ≡ 0) base (al base) its
        (multiple-of_uniform (inner_at w.lists t) (al base) stride (powers base) (x.of_stride base size stride is (al base) (alignment-of_array w.lists t base size stride (al base) is its)));
  }

  module _ (t : ℕ) (h : IsHostType w t) where
    -- the alignment of data in storage buffers is the alignment of its layout
    pub storage_alignment : (a : ℕ) → in_storage (info_of w t) ≡ Ok a → a ≡ al t
    storage_alignment a is = sym ((storage-exactly w t h.0 h.1).if_there a is).0

    module _ (u : ℕ) (is : in_uniform (info_of w t) ≡ Ok u) where
      -- data with an alignment in uniform buffers has the alignment of its layout in storage buffers
      pub storage_of_uniform : in_storage (info_of w t) ≡ Ok (al t)
      storage_of_uniform = (storage-exactly w t h.0 h.1).is_there (λ v i. aligned_if_uniform v (inside w t v i h) (((uniform-exactly w t h.0 h.1).if_there u is).1 v i))

      -- of which it is a multiple
      pub uniform_multiple : al t ∣ u
      uniform_multiple =
          let number : uniform_alignment w.lists t (al t) ≡ u = ((uniform-exactly w t h.0 h.1).if_there u is).0 in
          dvd_of_mod-eq-zero (al t) (multiple-of_uniform (inner_at w.lists t) (al t) u (powers t) (ap (λ k. u % k) number ∙ mod-eq-zero_of_dvd u (dvd_refl u)))
