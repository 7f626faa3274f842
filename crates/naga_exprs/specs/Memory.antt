-- The rules of loads and of the lengths of arrays.
use Rattle.std.specs.Prelude.{ℕ, Bool as Boolean, true, false, List, [], ◌∷◌, Option, Some, Result, is_some}
use Rattle.naga_flags.specs.Bits.{DATA, SIZED, union_of}
use Rattle.naga_flags.specs.Flags.{has}
use Rattle.naga_flags.specs.declared.flags.ShaderStages.{ShaderStages}
use Rattle.naga_ir.specs.declared.types.«Type».{«Type»}
use Rattle.naga_ir.specs.declared.types.ArraySize.{ArraySize}
use Rattle.naga_ir.specs.declared.types.ArraySize.TheVariants.{Constant, Pending, Dynamic}
use Rattle.naga_ir.specs.declared.types.TypeInner.{TypeInner}
use Rattle.naga_ir.specs.declared.types.TypeInner.TheVariants.{Pointer, ValuePointer, Array}
use Rattle.naga_info.specs.Stages.{compute_stage, every_stage}
use Rattle.naga_info.specs.Surroundings.{ExpressionSurroundings, flags_at, form_at}
use Rattle.naga_info.specs.declared.expression_error.ExpressionError.{ExpressionError}
use Rattle.naga_info.specs.declared.expression_error.ExpressionError.TheVariants as refusal
use Rattle.naga_types.specs.Checks.{ok_unless, require}
use Rattle.naga_typing.specs.FullTyping.{target_scalar}
use Rattle.naga_typing.specs.Resolutions.{inner_in}
use Rattle.naga_typing.specs.declared.typifier.TypeResolution.TheVariants.{Handle}

-- the flags of types that can be loaded: data of a fixed size
abbrev pub loadable_flags : ℕ
loadable_flags = union_of (SIZED ∷ DATA ∷ [])

-- a value can be loaded through `inner`: a pointer to data of a fixed size, or any value pointer
abbrev pub can_load : ExpressionSurroundings → TypeInner → Boolean
can_load s (Pointer base space) = has (flags_at s base) loadable_flags
can_load s (ValuePointer size scalar space) = true
can_load _ _ = false

-- the rule of a load
abbrev pub load_rule : ExpressionSurroundings → ℕ → Result ShaderStages ExpressionError
load_rule s pointer =
    ok_unless (require (can_load s (form_at s pointer)) (refusal.InvalidPointerType pointer)) every_stage

-- `size` is the size of a runtime-sized array
abbrev pub is_dynamic : ArraySize → Boolean
is_dynamic Dynamic = true
is_dynamic (Constant n) = false
is_dynamic (Pending o) = false

-- `inner` is a runtime-sized array
abbrev pub is_dynamic_array : Option TypeInner → Boolean
is_dynamic_array (Some (Array base size stride)) = is_dynamic size
is_dynamic_array _ = false

-- `inner` is a pointer to a runtime-sized array
abbrev pub points_to_dynamic : List «Type» → TypeInner → Boolean
points_to_dynamic types (Pointer base space) = is_dynamic_array (inner_in types (Handle base))
points_to_dynamic _ _ = false

-- the rule of the length of an array
abbrev pub array_length_rule : ExpressionSurroundings → ℕ → Result ShaderStages ExpressionError
array_length_rule s array =
    ok_unless (require (points_to_dynamic s.«module».types (form_at s array)) (refusal.InvalidArrayType array))
    every_stage

-- the rule of a load of a cooperative matrix, which only compute shaders may use
abbrev pub cooperative_load_rule : ExpressionSurroundings → ℕ → Result ShaderStages ExpressionError
cooperative_load_rule s pointer =
    let is_matrix = is_some (target_scalar s.«module».types (form_at s pointer)) in
    ok_unless (require is_matrix (refusal.InvalidPointerType pointer)) compute_stage
