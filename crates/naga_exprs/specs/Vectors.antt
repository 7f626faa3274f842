-- The rule of swizzles.
use Rattle.std.specs.Prelude.{ltb, ℕ, List, Option, Some, None, Result, map, take}
use Rattle.naga_flags.specs.declared.flags.ShaderStages.{ShaderStages}
use Rattle.naga_ir.specs.declared.expression.SwizzleComponent.{SwizzleComponent}
use Rattle.naga_ir.specs.declared.expression.SwizzleComponent.TheVariants.{X, Y, Z, W}
use Rattle.naga_ir.specs.Sizes.{components}
use Rattle.naga_ir.specs.declared.types.TypeInner.{TypeInner}
use Rattle.naga_ir.specs.declared.types.TypeInner.TheVariants.{Scalar, Vector, Matrix, CooperativeMatrix, Atomic, Pointer, ValuePointer, Array, Struct, Image, Sampler, AccelerationStructure, RayQuery, BindingArray}
use Rattle.naga_ir.specs.declared.types.VectorSize.{VectorSize}
use Rattle.naga_info.specs.Stages.{every_stage}
use Rattle.naga_info.specs.Surroundings.{ExpressionSurroundings, form_at}
use Rattle.naga_info.specs.declared.expression_error.ExpressionError.{ExpressionError}
use Rattle.naga_info.specs.declared.expression_error.ExpressionError.TheVariants as refusal
use Rattle.naga_types.specs.Checks.{first, ok_unless, require}

-- the size of a vector; other types have none
abbrev pub vector_size : TypeInner → Option VectorSize
vector_size (Vector size scalar) = Some size
vector_size (Scalar scalar) = None
vector_size (Matrix columns rows scalar) = None
vector_size (CooperativeMatrix columns rows scalar role) = None
vector_size (Atomic scalar) = None
vector_size (Pointer base space) = None
vector_size (ValuePointer size scalar space) = None
vector_size (Array base size stride) = None
vector_size (Struct members span) = None
vector_size (Image dim arrayed class) = None
vector_size (Sampler comparison) = None
vector_size (AccelerationStructure vertex_return) = None
vector_size (RayQuery vertex_return) = None
vector_size (BindingArray base size) = None

-- the index of a component
abbrev pub component_index : SwizzleComponent → ℕ
component_index X = 0
component_index Y = 1
component_index Z = 2
component_index W = 3

-- the error of a component, unless a vector of this size has it
abbrev pub component_error : VectorSize → SwizzleComponent → Option ExpressionError
component_error size component =
    require (ltb (component_index component) (components size)) (refusal.InvalidSwizzleComponent component size)

-- the error of the first component that a vector of this size lacks
abbrev pub first_lacking : VectorSize → List SwizzleComponent → Option ExpressionError
first_lacking size wanted = first (map (component_error size) wanted)

-- the error of a swizzle, unless a vector is swizzled, and has the first components of the pattern, as many as are
-- taken
abbrev pub swizzle_error : ℕ → VectorSize → List SwizzleComponent → Option VectorSize → Option ExpressionError
swizzle_error vector taken pattern None = Some (refusal.InvalidVectorType vector)
swizzle_error vector taken pattern (Some size) = first_lacking size (take (components taken) pattern)

-- the rule of a swizzle
abbrev pub swizzle_rule : ExpressionSurroundings → VectorSize → ℕ → List SwizzleComponent
    → Result ShaderStages ExpressionError
swizzle_rule s taken vector pattern =
    ok_unless (swizzle_error vector taken pattern (vector_size (form_at s vector))) every_stage
