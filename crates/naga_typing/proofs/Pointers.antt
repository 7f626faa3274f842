-- Following pointers to the type that they lead to.
use Rattle.std.proofs.Common.{◌≡◌, ◌<◌, ℕ, suc, List, Some, Contains, length, map, slice_get, refl, sym, subst, arith, option_to_list}
use Rattle.std.proofs.lemmas.List.Elements.{All-contains, Contains-append_left}
use Rattle.naga_ir.specs.Handles.{ExistsGlobally, GlobalReferencesOk}
use Rattle.naga_ir.specs.ItemReferences.{GlobalLists, type_references}
use Rattle.naga_ir.specs.declared.reference.Reference.{Reference}
use Rattle.naga_ir.specs.declared.reference.Reference.TheVariants as to
use Rattle.naga_ir.proofs.PartLemmas.{parts_of_pointer}
use Rattle.naga_ir.specs.Parts.{parts, size_override}
use Rattle.naga_ir.specs.declared.types.«Type».{«Type»}
use Rattle.naga_ir.specs.declared.types.AddressSpace.{AddressSpace}
use Rattle.naga_ir.specs.declared.types.TypeInner.{TypeInner}
use Rattle.naga_ir.specs.declared.types.TypeInner.TheVariants.{Pointer}
use Rattle.naga_ir.proofs.ReferencesOfItems.{parts_come_before}
use Rattle.naga_typing.proofs.Existence.{references_exist}
use Rattle.naga_typing.specs.Context.{ReferencesExist}
use Rattle.naga_typing.specs.Index.{IsNotPointer, PointsTo, itself, pointed_to}

-- one more than the index that a pointer points to, and 0 for other types
abbrev pub pointers_left : TypeInner → ℕ
pointers_left (Pointer base space) = suc base
pointers_left _ = 0

type_of_pointer : (base : ℕ) (space : AddressSpace) → Contains (map to.Type_ (parts (Pointer base space))) (to.Type_ base)
unfolding parts
type_of_pointer base space = (0, omega arith, refl)

-- the base of a pointer exists
pub pointer_base_exists : (g : GlobalLists) (inner : TypeInner) (base : ℕ) (space : AddressSpace) → ReferencesExist g inner → inner ≡ Pointer base space → base < length g.types
pointer_base_exists g inner base space exist e =
    let form : TypeInner = Pointer base space in
    let named : List Reference = map to.Type_ (parts form) in
    All-contains (ExistsGlobally g) (type_references form) (to.Type_ base) (subst (ReferencesExist g) e exist)
    (Contains-append_left named (map to.Override (option_to_list (size_override form))) (to.Type_ base) (type_of_pointer base space))

module _ (g : GlobalLists) where
  -- pointers lead from one type to another
  pub record Following (from now : TypeInner) : Type 0 where
    pub exist : ReferencesExist g now
    pub leads : (x : TypeInner) → PointsTo g.types now x → PointsTo g.types from x

  pub begin : (from : TypeInner) → ReferencesExist g from → Following from from
  begin from exist = record { exist = exist; leads = λ x h. h }

  module _ (ok : GlobalReferencesOk g) (from now : TypeInner) (base : ℕ) (space : AddressSpace) (t : «Type») (e : now ≡ Pointer base space) (at : slice_get g.types base ≡ Some t) where
    pub follow : Following from now → Following from t.inner
    follow f = record {
      exist = references_exist g ok base t at;
      leads = λ x h. f.leads x (subst (λ i. PointsTo g.types i x) (sym e) (pointed_to base space t x at h));
    }

    -- the base of a pointer precedes it
    pub nearer : pointers_left t.inner < pointers_left now
    nearer = subst (λ i. pointers_left t.inner < pointers_left i) (sym e) (by_form t.inner refl)
      where
        by_form : (inner : TypeInner) → t.inner ≡ inner → pointers_left inner < suc base
        by_form (Pointer b s) is =
            let back : b < base = parts_come_before g ok base t b at (subst (λ i. Contains (parts i) b) (sym is) (parts_of_pointer b s)) in omega (arith, back)
        by_form _ is = omega arith

  pub end : (from now : TypeInner) → Following from now → IsNotPointer now → PointsTo g.types from now
  end from now f none = f.leads now (itself now none)
