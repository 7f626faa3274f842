-- The types of expressions.
use Rattle.std.specs.Prelude.{◌≡◌, ◌<◌, ◌⊎◌, ℕ, List, Option, Some, None, All, Contains, length, option_and_then, option_map, slice_get, ⊤}
use Rattle.std.specs.Option.{option_map_or}
use Rattle.naga_ir.specs.ItemReferences.{GlobalLists}
use Rattle.naga_ir.specs.Parts.{parts}
use Rattle.naga_ir.specs.TypeWords.{IsNotStruct, IsStruct}
use Rattle.naga_ir.specs.declared.types.«Type».{«Type»}
use Rattle.naga_ir.specs.declared.types.AddressSpace.{AddressSpace}
use Rattle.naga_ir.specs.declared.types.TypeInner.{TypeInner}
use Rattle.naga_ir.specs.declared.types.TypeInner.TheVariants as form
use Rattle.naga_typing.specs.Context.{ReferencesExist}
use Rattle.naga_typing.specs.declared.typifier.TypeResolution.{TypeResolution}
use Rattle.naga_typing.specs.declared.typifier.TypeResolution.TheVariants.{Handle, Value}

-- the handle of a type, if it is given by one
abbrev pub handle_of : TypeResolution → Option ℕ
handle_of (Handle t) = Some t
handle_of (Value inner) = None

-- the `TypeInner` of a type that is given by its handle or as a value
abbrev pub inner_in : List «Type» → TypeResolution → Option TypeInner
inner_in types (Handle t) = option_map (λ (x : «Type»). x.inner) (slice_get types t)
inner_in types (Value inner) = Some inner

-- the `TypeInner` of the type of an operand
abbrev pub operand : List «Type» → List TypeResolution → ℕ → Option TypeInner
operand types earlier e = option_and_then (inner_in types) (slice_get earlier e)

-- the types that `inner` names exist
abbrev pub PartsExist : List «Type» → TypeInner → Type 0
PartsExist types inner = (p : ℕ) → Contains (parts inner) p → p < length types

-- the types that the types of a list name exist
abbrev pub AllPartsExist : List «Type» → Type 0
AllPartsExist types = All (λ (t : «Type»). PartsExist types t.inner) types

-- the types that a resolution names exist
abbrev pub TypesExist : List «Type» → TypeResolution → Type 0
TypesExist types (Handle t) = t < length types
TypesExist types (Value inner) = PartsExist types inner

-- everything that a resolution refers to exists: its type, or what its `TypeInner` refers to
abbrev pub ResolutionExists : GlobalLists → TypeResolution → Type 0
ResolutionExists g (Handle t) = t < length g.types
ResolutionExists g (Value inner) = ReferencesExist g inner

-- `inner` may be given as a value: it is not an array, binding array or struct
abbrev pub IsValueForm : TypeInner → Type 0
IsValueForm (form.Array base size stride) = ⊥
IsValueForm (form.BindingArray base size) = ⊥
IsValueForm (form.Struct members span) = ⊥
IsValueForm _ = ⊤

-- a resolution is a handle, or a `TypeInner` that may be given as a value
abbrev pub IsProperResolution : TypeResolution → Type 0
IsProperResolution (Handle t) = ⊤
IsProperResolution (Value inner) = IsValueForm inner

-- a struct is given as a value
abbrev pub IsStructValue : TypeResolution → Type 0
IsStructValue (Handle t) = ⊥
IsStructValue (Value inner) = IsStruct inner

-- a pointer to a type, as it is compared: to a scalar or a vector it is a value pointer
abbrev pub pointer_to : ℕ → AddressSpace → TypeInner → TypeInner
pointer_to base space (form.Scalar scalar) = form.ValuePointer None scalar space
pointer_to base space (form.Vector size scalar) = form.ValuePointer (Some size) scalar space
pointer_to base space _ = form.Pointer base space

-- a type as it is compared: pointers as `pointer_to` says, and other types as they are
abbrev pub canonical : List «Type» → TypeInner → TypeInner
canonical types (form.Pointer base space) =
    option_map_or (pointer_to base space) (inner_in types (Handle base)) (form.Pointer base space)
canonical _ inner = inner

-- `lhs` and `rhs` are the same handle
abbrev pub AreOneHandle : TypeResolution → TypeResolution → Type 0
AreOneHandle lhs rhs = (t : ℕ) × (lhs ≡ Handle t) × (rhs ≡ Handle t)

-- `x` and `y`, the types of `lhs` and `rhs`, are the same: structs if they have the same handle, other types if they
-- are equal as they are compared
abbrev pub AreSameInners : List «Type» → TypeResolution → TypeResolution → TypeInner → TypeInner → Type 0
AreSameInners types lhs rhs x y =
    (IsStruct x × IsStruct y × AreOneHandle lhs rhs)
    ⊎ (IsNotStruct x × IsNotStruct y × (canonical types x ≡ canonical types y))

-- `lhs` and `rhs` are of the same type
abbrev pub AreSameTypes : List «Type» → TypeResolution → TypeResolution → Type 0
AreSameTypes types lhs rhs =
    (x : TypeInner) × (y : TypeInner) × (inner_in types lhs ≡ Some x) × (inner_in types rhs ≡ Some y)
    × AreSameInners types lhs rhs x y
