-- Places among the parts of a value.
use Rattle.std.specs.Prelude.{◌≡◌, ◌+◌, ◌*◌, ◌-◌, ◌<◌, ◌≤◌, ℕ, zero, suc, List, [], ◌∷◌, ◌++◌, Option, Some, length, option_and_then}
use Rattle.naga_arena.specs.Numbers.{largest_u32}
use Rattle.naga_ir.specs.ItemReferences.{GlobalLists}
use Rattle.naga_leaves.specs.declared.cursor.Place.{Place}
use Rattle.naga_leaves.specs.declared.leaf.Part.{Part}
use Rattle.naga_typing.specs.Leaves as spec
use Rattle.naga_typing.specs.Leaves.{Elements, inner_at}

-- the part at an index of a type
abbrev pub part_of_type : GlobalLists → Elements → ℕ → ℕ → Option spec.Part
part_of_type g elements_of t i = option_and_then (λ inner. spec.part_at elements_of inner i) (inner_at g t)

-- from a type a path leads through parts to a part, each with its first byte from the start of the whole
pub data LeadsTo (g : GlobalLists) (elements_of : Elements) (whole : ℕ) : List Part → List ℕ → Part → Type 0 where
  itself : LeadsTo g elements_of whole [] [] (record { ty = whole; first = 0 })
  further : (outer : List Part) (path : List ℕ) (part : Part) (i : ℕ) (child : spec.Part)
      → LeadsTo g elements_of whole outer path part → part_of_type g elements_of part.ty i ≡ Some child
      → i ≤ largest_u32
      → LeadsTo g elements_of whole (outer ++ part ∷ []) (path ++ i ∷ [])
      (record { ty = child.ty; first = part.first + child.first })

-- the path of `place` leads to its part, and the next index is at most one above the greatest index in a path
pub record IsPlace (g : GlobalLists) (elements_of : Elements) (place : Place) : Type 0 where
  pub exists : place.ty < length g.types
  pub leads : LeadsTo g elements_of place.ty place.outer.items place.path.items place.part
  pub next : place.next ≤ suc largest_u32

-- the first path that a place has still to come to
abbrev pub place_start : Place → List ℕ
place_start place = place.path.items ++ place.next ∷ []

-- more steps than the parts of a type can take, one at each index of 32 bits and one past these
unfoldable pub weight : ℕ → ℕ
weight zero = 1
weight (suc t) = (suc (suc (suc largest_u32))) * weight t

-- the steps that are left in a part from an index on
abbrev pub part_left : ℕ → ℕ → ℕ
part_left t next = (suc (suc largest_u32) - next) * weight t

-- the steps that are left in the parts around, each from the index after the index of the path
unfoldable pub outer_left : List Part → List ℕ → ℕ
outer_left [] path = 0
outer_left (part ∷ outer) [] = 0
outer_left (part ∷ outer) (i ∷ path) = part_left part.ty (i + 1) + outer_left outer path

-- the greatest number of steps that may be left to a place
abbrev pub place_left : Place → ℕ
place_left place = outer_left place.outer.items place.path.items + part_left place.part.ty place.next

-- a place went on to `part`, which is the part at `index` of its part
pub record IsEntered (before now : Place) (index : ℕ) (part : Part) : Type 0 where
  pub ty : now.ty ≡ before.ty
  pub part_is : now.part ≡ part
  pub next : now.next ≡ 0
  pub outer : now.outer.items ≡ before.outer.items ++ before.part ∷ []
  pub path : now.path.items ≡ before.path.items ++ index ∷ []

-- a place did not move
pub record IsUnmoved (before now : Place) : Type 0 where
  pub ty : now.ty ≡ before.ty
  pub part : now.part ≡ before.part
  pub next : now.next ≡ before.next
  pub outer : now.outer.items ≡ before.outer.items
  pub path : now.path.items ≡ before.path.items

-- a place went back from the part at `index` of the part around it to that part, and there to the index `next`
pub record IsLeft (before now : Place) (index next : ℕ) : Type 0 where
  pub ty : now.ty ≡ before.ty
  pub next_is : now.next ≡ next
  pub outer : before.outer.items ≡ now.outer.items ++ now.part ∷ []
  pub path : before.path.items ≡ now.path.items ++ index ∷ []
