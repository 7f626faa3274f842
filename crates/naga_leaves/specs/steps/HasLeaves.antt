-- Whether a type has a leaf, by what is known of the types before it.
use Rattle.std.specs.Prelude.{◌≡◌, ◌<◌, ◌⊎◌, ℕ, Bool, true, IsTrue, List, Some, Contains, length, slice_get}
use Rattle.naga_ir.specs.Parts.{parts}
use Rattle.naga_ir.specs.declared.types.StructMember.{StructMember}
use Rattle.naga_ir.specs.declared.types.TypeInner.{TypeInner}
use Rattle.naga_typing.specs.Leaves.{Elements, Part, is_leaf, part_at}

-- it is known whether the types that `inner` names have a leaf
abbrev pub ArePartsKnown : List Bool → TypeInner → Type 0
ArePartsKnown known inner = (t : ℕ) → Contains (parts inner) t → t < length known

-- a value of type `inner` has a part of a type that has a leaf by `known`
pub record HasPartWithLeaves (elements_of : Elements) (known : List Bool) (inner : TypeInner) : Type 0 where
  pub index : ℕ
  pub part : Part
  pub there : part_at elements_of inner index ≡ Some part
  pub has : slice_get known part.ty ≡ Some true

-- a value of type `inner` is a leaf, or has a part of a type that has one
abbrev pub HasLeavesBy : Elements → List Bool → TypeInner → Type 0
HasLeavesBy elements_of known inner = IsTrue (is_leaf inner) ⊎ HasPartWithLeaves elements_of known inner

-- one of the members has a type that has a leaf by `known`
pub record HasMemberWithLeaves (known : List Bool) (members : List StructMember) : Type 0 where
  pub index : ℕ
  pub member : StructMember
  pub there : slice_get members index ≡ Some member
  pub has : slice_get known member.ty ≡ Some true
