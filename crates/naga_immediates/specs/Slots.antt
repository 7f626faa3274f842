-- Slots of immediate data, the parts that a set of slots distinguishes: four bytes each, from byte 4k on.
use Rattle.std.specs.Prelude.{◌≡◌, ◌+◌, ◌*◌, ◌<◌, ◌≤◌, ◌↔◌, ℕ, List, Option, Some, None, Bool, true, false, Contains, length, option_and_then, option_map, slice_get, unwrap_or}
use Rattle.std.specs.Int.{bit_at}
use Rattle.std.specs.List.{find}
use Rattle.naga_immediates.specs.declared.immediates.ImmediateSlots.{ImmediateSlots}
use Rattle.naga_ir.specs.ItemReferences.{GlobalLists}
use Rattle.naga_ir.specs.declared.expression.Expression.{Expression}
use Rattle.naga_ir.specs.declared.expression.Expression.TheVariants.{AccessIndex, GlobalVariable}
use Rattle.naga_ir.specs.declared.ir.GlobalVariable.{GlobalVariable as Variable}
use Rattle.naga_ir.specs.TypeWords.{IsNotStruct}
use Rattle.naga_ir.specs.declared.types.«Type».{«Type»}
use Rattle.naga_ir.specs.declared.types.AddressSpace.{AddressSpace}
use Rattle.naga_ir.specs.declared.types.AddressSpace.TheVariants as space
use Rattle.naga_ir.specs.declared.types.StructMember.{StructMember}
use Rattle.naga_ir.specs.declared.types.TypeInner.{TypeInner}
use Rattle.naga_ir.specs.declared.types.TypeInner.TheVariants.{Struct}
use Rattle.naga_typing.specs.Context.{lists_of}
use Rattle.naga_typing.specs.Layout.{size_of}
use Rattle.naga_typing.specs.Leaves.{inner_at, size_at_index}
use Rattle.naga_typing.specs.declared.context.GlobalCtx.{GlobalCtx}

-- the lists of a context, with these types in place of its own
abbrev pub lists_with : List «Type» → GlobalCtx → GlobalLists
lists_with types gctx = record (lists_of gctx) { types = types }

-- how many slots there are
abbrev pub slot_count : ℕ
slot_count = 64

-- how many bytes a slot has
abbrev pub slot_size : ℕ
slot_size = 4

-- how many bytes all slots have: the size of immediate data
abbrev pub byte_count : ℕ
byte_count = 256

-- slot `k` is in the set `slots`
abbrev pub HasSlot : ImmediateSlots → ℕ → Type 0
HasSlot slots k = bit_at slots.0 k ≡ 1

-- the `size` bytes from `first` on share a byte with slot `k`
abbrev pub SharesByte : (first size k : ℕ) → Type 0
SharesByte first size k =
    (byte : ℕ) × (first ≤ byte) × (byte < first + size) × (slot_size * k ≤ byte) × (byte < slot_size * k + slot_size)

-- the set `slots` has exactly the slots of which `P` holds
abbrev pub IsSetOf : (ℕ → Type 0) → ImmediateSlots → Type 0
IsSetOf P slots = (k : ℕ) → HasSlot slots k ↔ ((k < slot_count) × P k)

-- a part of a value that is not a struct, reached only through members of structs: its `TypeInner` and its first byte,
-- if the value begins at byte `at`
pub data HasPart (g : GlobalLists) : TypeInner → ℕ → TypeInner → ℕ → Type 0 where
  itself : (inner : TypeInner) (at : ℕ) → IsNotStruct inner → HasPart g inner at inner at
  in_member : (members : List StructMember) (span at : ℕ) (m : StructMember) (inner part : TypeInner) (first : ℕ)
      → Contains members m → inner_at g m.ty ≡ Some inner → HasPart g inner (at + m.offset) part first
      → HasPart g (Struct members span) at part first

-- a value of type `inner` that begins at byte `at` uses slot `k`: a part of it shares a byte with the slot
pub record UsesSlot (g : GlobalLists) (inner : TypeInner) (at k : ℕ) : Type 0 where
  pub part : TypeInner
  pub first : ℕ
  pub is_part : HasPart g inner at part first
  pub shares : SharesByte first (size_of g part) k

-- `pointer` accesses member `m` of a variable of type `whole` by the member's index
pub record AccessesMember (xs : List Expression) (whole : TypeInner) (pointer : ℕ) (m : StructMember) : Type 0 where
  pub base : ℕ
  pub index : ℕ
  pub variable : ℕ
  pub members : List StructMember
  pub span : ℕ
  pub accesses : slice_get xs pointer ≡ Some (AccessIndex base index)
  pub names : slice_get xs base ≡ Some (GlobalVariable variable)
  pub is_struct : whole ≡ Struct members span
  pub is_member : slice_get members index ≡ Some m

-- `pointer` accesses no member of a variable of type `whole` by the member's index
abbrev pub AccessesNone : List Expression → TypeInner → ℕ → Type 0
AccessesNone xs whole pointer = (m : StructMember) → ¬ (AccessesMember xs whole pointer m)

-- if `pointer` accesses a member by its index, its base exists
abbrev pub BaseExists : List Expression → ℕ → Type 0
BaseExists xs pointer = (base index : ℕ) → slice_get xs pointer ≡ Some (AccessIndex base index) → base < length xs

-- what `pointer` into a variable of type `whole` reaches, as far as slots distinguish it: a
-- value of a type, and its first byte
pub data Touches (g : GlobalLists) (xs : List Expression) (whole : TypeInner) (pointer : ℕ) : TypeInner → ℕ → Type 0 where
  member : (m : StructMember) (inner : TypeInner) → AccessesMember xs whole pointer m → inner_at g m.ty ≡ Some inner
      → Touches g xs whole pointer inner m.offset
  all : AccessesNone xs whole pointer → Touches g xs whole pointer whole 0

-- the type of a variable exists
abbrev pub IsTyped : GlobalLists → Option Variable → Type 0
IsTyped g None = ⊥
IsTyped g (Some v) = v.ty < length g.types

-- the type of a variable
abbrev pub form_of_variable : GlobalLists → Option Variable → Option TypeInner
form_of_variable g variable = option_and_then (λ (v : Variable). inner_at g v.ty) variable

-- `slots` are exactly the slots of what `pointer` into `variable` reaches
pub record AreSlotsTouched (g : GlobalLists) (xs : List Expression) (variable : Option Variable) (pointer : ℕ) (slots : ImmediateSlots) : Type 0 where
  pub whole : TypeInner
  pub inner : TypeInner
  pub first : ℕ
  pub is_whole : form_of_variable g variable ≡ Some whole
  pub reached : Touches g xs whole pointer inner first
  pub exactly : IsSetOf (UsesSlot g inner first) slots

-- variables in the address space hold immediate data
abbrev pub is_immediate : AddressSpace → Bool
is_immediate space.Function = false
is_immediate space.Private = false
is_immediate space.WorkGroup = false
is_immediate space.Uniform = false
is_immediate (space.Storage access) = false
is_immediate space.Handle = false
is_immediate space.Immediate = true
is_immediate space.TaskPayload = false
is_immediate space.RayPayload = false
is_immediate space.IncomingRayPayload = false

-- the size of the first variable that holds immediate data, and 0 if there is none
abbrev pub immediate_size : GlobalLists → List Variable → ℕ
immediate_size g variables =
    unwrap_or
    (option_map (λ (v : Variable). size_at_index g v.ty)
    (find (λ (v : Variable). is_immediate v.space) variables)) 0
