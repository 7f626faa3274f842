-- The indexable length of a type: how many elements a value has that can be indexed.
use Rattle.std.specs.Prelude.{◌≡◌, ℕ, List, Option, Some, None, Result, Ok, Err, slice_get, ⊤}
use Rattle.naga_ir.specs.ItemReferences.{GlobalLists}
use Rattle.naga_ir.specs.Sizes.{components}
use Rattle.naga_ir.specs.declared.types.«Type».{«Type»}
use Rattle.naga_ir.specs.declared.types.AddressSpace.{AddressSpace}
use Rattle.naga_ir.specs.declared.types.ArraySize.{ArraySize}
use Rattle.naga_ir.specs.declared.types.ArraySize.TheVariants as size
use Rattle.naga_ir.specs.declared.types.TypeInner.{TypeInner}
use Rattle.naga_ir.specs.declared.types.TypeInner.TheVariants.{Vector, Matrix, Pointer, ValuePointer, Array, BindingArray}
use Rattle.naga_typing.specs.Constants.{override_count}
use Rattle.naga_typing.specs.declared.index.IndexableLength.{IndexableLength}
use Rattle.naga_typing.specs.declared.index.IndexableLength.TheVariants.{Known, Pending, Dynamic}
use Rattle.naga_typing.specs.declared.index.IndexableLengthError.{IndexableLengthError}
use Rattle.naga_typing.specs.declared.index.IndexableLengthError.TheVariants.{TypeNotIndexable, InvalidArrayLength}

-- `inner` is not a pointer to a type of the module
abbrev pub IsNotPointer : TypeInner → Type 0
IsNotPointer (Pointer base space) = ⊥
IsNotPointer _ = ⊤

-- a type leads through any number of pointers to a type that is not a pointer
pub data PointsTo (types : List «Type») : TypeInner → TypeInner → Type 0 where
  itself : (x : TypeInner) → IsNotPointer x → PointsTo types x x
  pointed_to : (base : ℕ) (space : AddressSpace) (t : «Type») (x : TypeInner) → slice_get types base ≡ Some t
      → PointsTo types t.inner x → PointsTo types (Pointer base space) x

-- the length of an array before overrides have their values
abbrev pub pending_length : ArraySize → Result IndexableLength IndexableLengthError
pending_length (size.Constant n) = Ok (Known n.value)
pending_length (size.Pending o) = Ok Pending
pending_length size.Dynamic = Ok Dynamic

-- the length that an override gives by its count
abbrev pub length_of_count : Option ℕ → Result IndexableLength IndexableLengthError
length_of_count None = Err InvalidArrayLength
length_of_count (Some n) = Ok (Known n)

-- the length of an array once overrides have their values
abbrev pub resolved_length : GlobalLists → ArraySize → Result IndexableLength IndexableLengthError
resolved_length g (size.Constant n) = Ok (Known n.value)
resolved_length g (size.Pending o) = length_of_count (override_count g o)
resolved_length g size.Dynamic = Ok Dynamic

-- the length of arrays by their sizes: `pending_length`, or `resolved_length` by some lists
abbrev pub LengthOfArray : Type 0
LengthOfArray = ArraySize → Result IndexableLength IndexableLengthError

-- the length of a type that is not a pointer to a type of the module, by the length of arrays
abbrev pub length_of : LengthOfArray → TypeInner → Result IndexableLength IndexableLengthError
length_of of_array (Vector size scalar) = Ok (Known (components size))
length_of of_array (Matrix columns rows scalar) = Ok (Known (components columns))
length_of of_array (ValuePointer (Some size) scalar space) = Ok (Known (components size))
length_of of_array (Array base size stride) = of_array size
length_of of_array (BindingArray base size) = of_array size
length_of _ _ = Err TypeNotIndexable

-- the length of a type is the length of the type that it leads to through pointers
abbrev pub IsLength : GlobalLists → LengthOfArray → TypeInner → Result IndexableLength IndexableLengthError → Type 0
IsLength g of_array inner result = (x : TypeInner) × PointsTo g.types inner x × (result ≡ length_of of_array x)
