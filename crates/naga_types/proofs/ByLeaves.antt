-- What holds of all types inside data that hosts may share, variant by variant.
use Rattle.std.proofs.Common.{◌≡◌, ◌+◌, ◌%◌, ◌≤◌, ℕ, suc, true, false, List, Contains, Some, Ok, slice_get, sym, subst, ap, ◌∙◌}
use Rattle.std.proofs.lemmas.Option.{same_Some}
use Rattle.naga_flags.specs.Bits.{SIZED}
use Rattle.naga_flags.specs.Flags.{has}
use Rattle.naga_ir.specs.ItemReferences.{GlobalLists}
use Rattle.naga_ir.specs.declared.types.ArraySize.{ArraySize}
use Rattle.naga_ir.specs.declared.types.StructMember.{StructMember}
use Rattle.naga_ir.specs.declared.types.TypeInner.{TypeInner}
use Rattle.naga_ir.specs.declared.types.TypeInner.TheVariants.{Array, Struct}
use Rattle.naga_types.specs.HostLayouts.{IsStorageAligned, IsUniformAligned, OfLeafAlignment, uniform_alignment}
use Rattle.naga_types.specs.Layouts.{Layout, rounded_up}
use Rattle.naga_types.specs.Surroundings.{info_in}
use Rattle.naga_types.specs.declared.info.TypeInfo.{TypeInfo}
use Rattle.naga_typing.proofs.TypesInside.{AllInside}
use Rattle.naga_typing.proofs.LeafAlignments.{leaf-alignment_once}
use Rattle.naga_typing.specs.Leaves.{IsLeafAlignment, inner_at, is_leaf}

-- a layout is there exactly if something holds of all types inside a type, and then with this number
pub record IsExactly (g : GlobalLists) (P : ℕ → Type 0) (t number : ℕ) (layout : Layout) : Type 0 where
  pub if_there : (a : ℕ) → layout ≡ Ok a → (number ≡ a) × AllInside g P t
  pub is_there : AllInside g P t → layout ≡ Ok number

-- two numbers in one layout
pub same-layout : (a b : ℕ) → (let left : Layout = Ok a in left ≡ Ok b) → a ≡ b
same-layout a b e = cc e

module _ (g : GlobalLists) where
  -- what holds of one leaf alignment holds of it
  pub of-leaf_alignment : (P : ℕ → Type 0) (t a : ℕ) → IsLeafAlignment g t a → P a → OfLeafAlignment g t P
  of-leaf_alignment P t a is holds b other = subst P (leaf-alignment_once g t a b is other) holds

  module _ (t : ℕ) where
    -- a leaf is not a struct
    pub leaf-no_struct : {P : Type 0} (inner : TypeInner) (members : List StructMember) (span : ℕ) → inner_at g t ≡ Some inner → is_leaf inner ≡ true → inner_at g t ≡ Some (Struct members span) → P
    leaf-no_struct inner members span at one is = absurd (impossible (ap is_leaf (same_Some inner (Struct members span) (sym at ∙ is))))
      where
        impossible : is_leaf inner ≡ false → ⊥
        impossible e = cc (e, one)

    -- a leaf is not an array
    pub leaf-no_array : {P : Type 0} (inner : TypeInner) (base : ℕ) (size : ArraySize) (stride : ℕ) → inner_at g t ≡ Some inner → is_leaf inner ≡ true → inner_at g t ≡ Some (Array base size stride) → P
    leaf-no_array inner base size stride at one is = absurd (impossible (ap is_leaf (same_Some inner (Array base size stride) (sym at ∙ is))))
      where
        impossible : is_leaf inner ≡ false → ⊥
        impossible e = cc (e, one)

    -- a struct is not an array
    pub struct-no_array : {P : Type 0} (members : List StructMember) (span base : ℕ) (size : ArraySize) (stride : ℕ) → inner_at g t ≡ Some (Struct members span) → inner_at g t ≡ Some (Array base size stride) → P
    struct-no_array members span base size stride at is = absurd (impossible at is)
      where
        impossible : inner_at g t ≡ Some (Struct members span) → inner_at g t ≡ Some (Array base size stride) → ⊥
        impossible p q = cc (p, q)

    -- a struct has no other members
    pub same-members : (members ms : List StructMember) (span n : ℕ) → inner_at g t ≡ Some (Struct members span) → inner_at g t ≡ Some (Struct ms n) → members ≡ ms
    same-members members ms span n p q = cc (p, q)

    -- a struct has no other span
    pub same-span : (members ms : List StructMember) (span n : ℕ) → inner_at g t ≡ Some (Struct members span) → inner_at g t ≡ Some (Struct ms n) → span ≡ n
    same-span members ms span n p q = cc (p, q)

    -- an array has no other base
    pub same-base : (base b : ℕ) (size s : ArraySize) (stride d : ℕ) → inner_at g t ≡ Some (Array base size stride) → inner_at g t ≡ Some (Array b s d) → base ≡ b
    same-base base b size s stride d p q = cc (p, q)

    -- an array has no other stride
    pub same-stride : (base b : ℕ) (size s : ArraySize) (stride d : ℕ) → inner_at g t ≡ Some (Array base size stride) → inner_at g t ≡ Some (Array b s d) → stride ≡ d
    same-stride base b size s stride d p q = cc (p, q)

    -- a leaf is aligned by leaves
    pub aligned-leaf : (inner : TypeInner) → inner_at g t ≡ Some inner → is_leaf inner ≡ true → IsStorageAligned g t
    aligned-leaf inner at one = record {
      of_span = λ members span is. leaf-no_struct inner members span at one is;
      of_offset = λ members span m is. leaf-no_struct inner members span at one is;
      of_stride = λ base size stride is. leaf-no_array inner base size stride at one is;
    }

    -- an array is if its stride is
    pub aligned-array : (base : ℕ) (size : ArraySize) (stride : ℕ) → inner_at g t ≡ Some (Array base size stride) → OfLeafAlignment g base (λ a. stride % a ≡ 0) → IsStorageAligned g t
    aligned-array base size stride at multiple = record {
      of_span = λ members span is. struct-no_array members span base size stride is at;
      of_offset = λ members span m is. struct-no_array members span base size stride is at;
      of_stride = λ b s d is a its. subst (λ n. n % a ≡ 0) (same-stride base b size s stride d at is) (multiple a (subst (λ n. IsLeafAlignment g n a) (sym (same-base base b size s stride d at is)) its));
    }

    -- a struct is if its span and its offsets are
    pub aligned-struct : (members : List StructMember) (span : ℕ) → inner_at g t ≡ Some (Struct members span) → OfLeafAlignment g t (λ a. span % a ≡ 0)
        → ((m : StructMember) → Contains members m → OfLeafAlignment g m.ty (λ a. m.offset % a ≡ 0)) → IsStorageAligned g t
    aligned-struct members span at whole each = record {
      of_span = λ ms n is a its. subst (λ k. k % a ≡ 0) (same-span members ms span n at is) (whole a its);
      of_offset = λ ms n m is has. each m (subst (λ l. Contains l m) (sym (same-members members ms span n at is)) has);
      of_stride = λ base size stride is. struct-no_array members span base size stride at is;
    }

    -- a leaf is laid out for uniform buffers
    pub uniform-leaf : (infos : List TypeInfo) (inner : TypeInner) → inner_at g t ≡ Some inner → is_leaf inner ≡ true → IsUniformAligned g infos t
    uniform-leaf infos inner at one = record {
      of_span = λ members span is. leaf-no_struct inner members span at one is;
      of_offset = λ members span m is. leaf-no_struct inner members span at one is;
      of_size = λ members span m is. leaf-no_struct inner members span at one is;
      of_room = λ members span i m next inside room is. leaf-no_struct inner members span at one is;
      of_stride = λ base size stride is. leaf-no_array inner base size stride at one is;
    }

    -- an array is if its stride is
    pub uniform-array : (infos : List TypeInfo) (base : ℕ) (size : ArraySize) (stride : ℕ) → inner_at g t ≡ Some (Array base size stride)
        → OfLeafAlignment g t (λ a. stride % uniform_alignment g t a ≡ 0) → IsUniformAligned g infos t
    uniform-array infos base size stride at multiple = record {
      of_span = λ members span is. struct-no_array members span base size stride is at;
      of_offset = λ members span m is. struct-no_array members span base size stride is at;
      of_size = λ members span m is. struct-no_array members span base size stride is at;
      of_room = λ members span i m next inside room is. struct-no_array members span base size stride is at;
      of_stride = λ b s d is a its. subst (λ n. n % uniform_alignment g t a ≡ 0) (same-stride base b size s stride d at is) (multiple a its);
    }

    -- a member after a struct begins after its room
    abbrev pub LeavesRoom : List StructMember → Type 0
    LeavesRoom members = (i : ℕ) (m next : StructMember) (inside : List StructMember) (room : ℕ) → slice_get members i ≡ Some m → slice_get members (suc i) ≡ Some next → inner_at g m.ty ≡ Some (Struct inside room)
        → m.offset + rounded_up room ≤ next.offset

    -- a struct is if its span, its offsets, its members' sizes and the room of structs are
    pub uniform-struct : (infos : List TypeInfo) (members : List StructMember) (span : ℕ) → inner_at g t ≡ Some (Struct members span) → OfLeafAlignment g t (λ a. span % a ≡ 0)
        → ((m : StructMember) → Contains members m → OfLeafAlignment g m.ty (λ a. m.offset % uniform_alignment g m.ty a ≡ 0))
        → ((m : StructMember) → Contains members m → has (info_in (slice_get infos m.ty)).flags.0 SIZED ≡ true) → LeavesRoom members → IsUniformAligned g infos t
    uniform-struct infos members span at whole each sized rooms = record {
      of_span = λ ms n is a its. subst (λ k. k % a ≡ 0) (same-span members ms span n at is) (whole a its);
      of_offset = λ ms n m is in_list. each m (subst (λ l. Contains l m) (sym (same-members members ms span n at is)) in_list);
      of_size = λ ms n m is in_list. sized m (subst (λ l. Contains l m) (sym (same-members members ms span n at is)) in_list);
      of_room = λ ms n i m next inside room is m_at next_at. rooms i m next inside room
          (subst (λ (l : List StructMember). slice_get l i ≡ Some m) (sym (same-members members ms span n at is)) m_at)
          (subst (λ (l : List StructMember). slice_get l (suc i) ≡ Some next) (sym (same-members members ms span n at is)) next_at);
      of_stride = λ base size stride is. struct-no_array members span base size stride at is;
    }
