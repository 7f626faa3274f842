-- The rules of accesses to parts of values.
use Rattle.std.specs.Prelude.{◌≡◌, ltb, ℕ, Bool as Boolean, true, false, List, [], ◌∷◌, Option, Some, None, Result, Ok, Err, length, slice_get}
use Rattle.naga_arena.specs.Numbers.{largest_u32}
use Rattle.naga_flags.specs.declared.flags.ShaderStages.{ShaderStages}
use Rattle.naga_ir.specs.ItemReferences.{GlobalLists, global_lists}
use Rattle.naga_ir.specs.Sizes.{components}
use Rattle.naga_ir.specs.declared.types.«Type».{«Type»}
use Rattle.naga_ir.specs.declared.types.ArraySize.{ArraySize}
use Rattle.naga_ir.specs.declared.types.ArraySize.TheVariants as size
use Rattle.naga_ir.specs.declared.types.TypeInner.{TypeInner}
use Rattle.naga_ir.specs.declared.types.TypeInner.TheVariants.{Vector, Matrix, Pointer, ValuePointer, Array, Struct, BindingArray}
use Rattle.naga_info.specs.Stages.{every_stage}
use Rattle.naga_info.specs.Surroundings.{ExpressionSurroundings, form_at}
use Rattle.naga_info.specs.Words.{is_integer_scalar}
use Rattle.naga_info.specs.declared.expression_error.ExpressionError.{ExpressionError}
use Rattle.naga_info.specs.declared.expression_error.ExpressionError.TheVariants as refusal
use Rattle.naga_types.specs.Checks.{ok_unless, first_error_or, require}
use Rattle.naga_typing.specs.Constants.{index_of}
use Rattle.naga_typing.specs.Index.{IsLength, LengthOfArray, pending_length, resolved_length}
use Rattle.naga_typing.specs.Resolutions.{inner_in}
use Rattle.naga_typing.specs.declared.context.ConstValueError.{ConstValueError}
use Rattle.naga_typing.specs.declared.context.ConstValueError.TheVariants.{InvalidType, Negative, NonConst}
use Rattle.naga_typing.specs.declared.index.IndexableLength.{IndexableLength}
use Rattle.naga_typing.specs.declared.index.IndexableLength.TheVariants.{Known, Pending, Dynamic}
use Rattle.naga_typing.specs.declared.index.IndexableLengthError.{IndexableLengthError}
use Rattle.naga_typing.specs.declared.typifier.TypeResolution.TheVariants.{Handle}

-- values of type `inner` have parts at indexes that are computed
abbrev pub has_parts : TypeInner → Boolean
has_parts (Vector size scalar) = true
has_parts (Matrix columns rows scalar) = true
has_parts (Array base size stride) = true
has_parts (BindingArray base size) = true
has_parts (Pointer base space) = true
has_parts (ValuePointer (Some size) scalar space) = true
has_parts _ = false

-- the lengths of arrays, by whether overrides must have their values
abbrev pub lengths : Boolean → GlobalLists → LengthOfArray
lengths true g = resolved_length g
lengths false g = pending_length

-- the error of a constant index, if its base has no length, or a length that is known and not above the index
abbrev pub index_error : ℕ → ℕ → Result IndexableLength IndexableLengthError → Option ExpressionError
index_error base value (Ok (Known n)) = require (ltb value n) (refusal.IndexOutOfBounds base value)
index_error base value (Ok Pending) = None
index_error base value (Ok Dynamic) = None
index_error base value (Err error) = Some (refusal.IndexableLength error)

-- the error of an index, unless it is not a constant, or a number that is allowed
abbrev pub constant_index_error : ℕ → ℕ → Result IndexableLength IndexableLengthError → Result ℕ ConstValueError
    → Option ExpressionError
constant_index_error base index length (Ok value) = index_error base value length
constant_index_error base index length (Err Negative) = Some (refusal.NegativeIndex base)
constant_index_error base index length (Err InvalidType) = Some (refusal.InvalidIndexType index)
constant_index_error base index length (Err NonConst) = None

-- the conditions of an access to a base of this length: the base has parts, the index is an integer, and a
-- constant index is within the base
abbrev pub access_checks : ExpressionSurroundings → ℕ → ℕ → Result IndexableLength IndexableLengthError
    → List (Option ExpressionError)
access_checks s base index length =
    require (has_parts (form_at s base)) (refusal.InvalidBaseType base) ∷
    require (is_integer_scalar (form_at s index)) (refusal.InvalidIndexType index) ∷
    constant_index_error base index length
    (index_of (global_lists s.«module») (slice_get s.function.expressions index)) ∷ []

-- the rule of an access, by the length of its base
abbrev pub IsAccessRule : ExpressionSurroundings → ℕ → ℕ → Result ShaderStages ExpressionError → Type 0
IsAccessRule s base index rule =
    let g = global_lists s.«module» in
    (length : Result IndexableLength IndexableLengthError) × IsLength g (lengths s.resolved g) (form_at s base) length
    × (rule ≡ first_error_or (access_checks s base index length) every_stage)

-- the limit of the indexes into an array: its count if that is written, and else the greatest that there is
abbrev pub count_limit : ArraySize → ℕ
count_limit (size.Constant n) = n.value
count_limit (size.Pending o) = largest_u32
count_limit size.Dynamic = largest_u32

-- the limit of the known indexes into a value of a type that is not a pointer to a type of the module
abbrev pub part_limit : TypeInner → Option ℕ
part_limit (Vector size scalar) = Some (components size)
part_limit (ValuePointer (Some size) scalar space) = Some (components size)
part_limit (Matrix columns rows scalar) = Some (components columns)
part_limit (Array base size stride) = Some (count_limit size)
part_limit (BindingArray base size) = Some largest_u32
part_limit (Struct members span) = Some (length members)
part_limit _ = None

-- the limit of the known indexes into a value of a type that may not be there
abbrev pub part_limit_in : Option TypeInner → Option ℕ
part_limit_in None = None
part_limit_in (Some inner) = part_limit inner

-- the limit of the known indexes into a value of a type: into a pointer, the limit of what it points to
abbrev pub index_limit : List «Type» → TypeInner → Option ℕ
index_limit types (Pointer base space) = part_limit_in (inner_in types (Handle base))
index_limit types inner = part_limit inner

-- the error of a known index, unless its base has a limit and the index is below it
abbrev pub known_index_error : ℕ → ℕ → Option ℕ → Option ExpressionError
known_index_error base index None = Some (refusal.InvalidBaseType base)
known_index_error base index (Some limit) = require (ltb index limit) (refusal.IndexOutOfBounds base index)

-- the rule of an access at a known index
abbrev pub access_index_rule : ExpressionSurroundings → ℕ → ℕ → Result ShaderStages ExpressionError
access_index_rule s base index =
    ok_unless (known_index_error base index (index_limit s.«module».types (form_at s base))) every_stage
