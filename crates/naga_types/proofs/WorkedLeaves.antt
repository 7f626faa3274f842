-- Leaves of small types, and types whose leaves share bytes.
use Rattle.std.proofs.Common.{◌≡◌, ◌≤◌, ◌+◌, ◌%◌, ⊎_elim, ℕ, false, [], ◌∷◌, Some, None, Err, refl, arith}
use Rattle.naga_ir.specs.ItemReferences.{GlobalLists}
use Rattle.naga_ir.specs.declared.types.«Type».{«Type»}
use Rattle.naga_ir.specs.declared.types.ArraySize.TheVariants.{Dynamic}
use Rattle.naga_ir.specs.declared.types.ScalarKind.TheVariants.{Float}
use Rattle.naga_ir.specs.declared.types.StructMember.{StructMember}
use Rattle.naga_ir.specs.declared.types.TypeInner.{TypeInner}
use Rattle.naga_ir.specs.declared.types.TypeInner.TheVariants.{Array, Scalar, Struct, Vector}
use Rattle.naga_ir.specs.declared.types.VectorSize.TheVariants.{Quad}
use Rattle.naga_types.specs.FormFlags.{scalar_flags}
use Rattle.naga_types.specs.HostLeaves.{AlignsLeaves}
use Rattle.naga_types.specs.Surroundings.{Surroundings, shared}
use Rattle.naga_types.specs.TypeRule.{type_rule}
use Rattle.naga_types.specs.declared.error.TypeError.TheVariants.{InvalidArrayStride}
use Rattle.naga_typing.specs.Leaves.{AreSeparate, EndsInArray, ShareNoByte, array, elements, leaf_at}

-- a type without a name
abbrev unnamed : TypeInner → «Type»
unnamed inner = record { name = None; inner = inner }

-- a member of this type at this byte
abbrev member_at : ℕ → ℕ → StructMember
member_at ty offset = record { name = None; ty = ty; binding = None; offset = offset }

-- a number, a vector of four, a struct of both, and as many of that as there is room for; then numbers at a stride of
-- 0, two members at 0, a number behind a vector, and one in a vector
abbrev lists : GlobalLists
lists = record {
  types =
      unnamed (Scalar (record { kind = Float; width = 4 })) ∷
      unnamed (Vector Quad (record { kind = Float; width = 4 })) ∷
      unnamed (Struct (member_at 0 0 ∷ member_at 1 16 ∷ []) 32) ∷
      unnamed (Array 2 Dynamic 32) ∷
      unnamed (Array 0 Dynamic 0) ∷
      unnamed (Struct (member_at 0 0 ∷ member_at 0 0 ∷ []) 4) ∷
      unnamed (Struct (member_at 1 0 ∷ member_at 0 16 ∷ []) 32) ∷
      unnamed (Struct (member_at 0 0 ∷ member_at 1 16 ∷ member_at 0 20 ∷ []) 32) ∷
      [];
  constants = [];
  overrides = [];
  expressions = [];
}

-- the vector of the struct stands at 16
pub second-member : (n : ℕ) → leaf_at lists (elements lists n) 2 (1 ∷ []) ≡ Some (record { first = 16; size = 16; alignment = 16 })
unfolding leaf_at
second-member n = refl

-- the struct itself is not a leaf, and has no third member
pub whole-struct : (n : ℕ) → leaf_at lists (elements lists n) 2 [] ≡ None
unfolding leaf_at
whole-struct n = refl

pub third-member : (n : ℕ) → leaf_at lists (elements lists n) 2 (2 ∷ []) ≡ None
unfolding leaf_at
third-member n = refl

-- the vector of the third struct stands at 80, if there are three
pub third-element : leaf_at lists (elements lists 3) 3 (2 ∷ 1 ∷ []) ≡ Some (record { first = 80; size = 16; alignment = 16 })
unfolding leaf_at
third-element = refl

pub past-the-end : leaf_at lists (elements lists 2) 3 (2 ∷ 1 ∷ []) ≡ None
unfolding leaf_at
past-the-end = refl

-- the array ends in itself
pub ends-in-itself : EndsInArray lists 3 0 32
ends-in-itself = array 2 32 refl

other_index : (i j : ℕ) → ¬ (i ≡ j) → ¬ (i ∷ [] ≡ j ∷ [])
other_index i j other e = other (same i j e)
  where
    same : (i j : ℕ) → i ∷ [] ≡ j ∷ [] → i ≡ j
    same i j e = cc e

-- leaves of four bytes at 0 share some
shared_bytes : (a : ℕ) → ¬ (ShareNoByte (record { first = 0; size = 4; alignment = a }) (record { first = 0; size = 4; alignment = a }))
shared_bytes a h = ⊎_elim (λ (e : 0 + 4 ≤ 0). omega (arith, e)) (λ (e : 0 + 4 ≤ 0). omega (arith, e)) h

-- numbers at a stride of 0 share bytes, so hosts can't rely on them
pub no-stride : (limit : ℕ) → ¬ (AreSeparate lists 2 4 limit)
unfolding leaf_at
no-stride limit h = shared_bytes 4 (h.disjoint (0 ∷ []) (1 ∷ []) _ _ (other_index 0 1 (λ e. omega (arith, e))) refl refl)

-- what the rule of an array of numbers depends on
abbrev by_number : Surroundings
by_number = record {
  capabilities = 0;
  resolved = false;
  lists = lists;
  layouts = record { size = 4; alignment = 4 } ∷ [];
  infos = shared (scalar_flags Float) 4 ∷ [];
}

-- an array of numbers with stride 0 is refused, since a stride of 4 is the least
pub no-stride-is-refused : type_rule by_number 4 (Array 0 Dynamic 0) ≡ Err (InvalidArrayStride 0 4)
no-stride-is-refused = refl

-- hosts can't rely on two members at 0 either
pub members-at-0 : (n limit : ℕ) → ¬ (AreSeparate lists n 5 limit)
unfolding leaf_at
members-at-0 n limit h = shared_bytes 4 (h.disjoint (0 ∷ []) (1 ∷ []) _ _ (other_index 0 1 (λ e. omega (arith, e))) refl refl)

-- a member in the one before it shares bytes with it, though it stands behind the first
pub third-in-second : (n limit : ℕ) → ¬ (AreSeparate lists n 7 limit)
unfolding leaf_at
third-in-second n limit h =
    ⊎_elim (λ (e : 16 + 16 ≤ 20). omega (arith, e)) (λ (e : 20 + 4 ≤ 16). omega (arith, e)) (h.disjoint (1 ∷ []) (2 ∷ []) _ _ (other_index 1 2 (λ e. omega (arith, e))) refl refl)

-- the alignment of the last member is too little for the vector before it
pub last-member : ¬ (AlignsLeaves lists 6 4)
unfolding leaf_at
last-member aligns = let multiple : 4 % 16 ≡ 0 = aligns 0 (0 ∷ []) _ refl in omega (arith, multiple)
