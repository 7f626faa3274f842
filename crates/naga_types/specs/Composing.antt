-- The rule of composing.
use Rattle.std.specs.Prelude.{◌==◌, ◌&&◌, ℕ, Bool as Boolean, false, List, [], ◌∷◌, Option, Some, None, Result, length, map, slice_get, sum_by}
use Rattle.std.specs.List.{enumerate_from}
use Rattle.std.specs.Option.{option_map_or}
use Rattle.naga_ir.specs.Sizes.{components}
use Rattle.naga_ir.specs.contracts.types.ScalarPartialEq.TheImpl as of_scalar
use Rattle.naga_ir.specs.contracts.types.VectorSizePartialEq.TheImpl as of_size
use Rattle.naga_ir.specs.declared.types.«Type».{«Type»}
use Rattle.naga_ir.specs.declared.types.ArraySize.TheVariants.{Constant}
use Rattle.naga_ir.specs.declared.types.Scalar.{Scalar as ScalarType}
use Rattle.naga_ir.specs.declared.types.StructMember.{StructMember}
use Rattle.naga_ir.specs.declared.types.TypeInner.{TypeInner}
use Rattle.naga_ir.specs.declared.types.TypeInner.TheVariants.{Scalar, Vector, Matrix, Array, Struct}
use Rattle.naga_ir.specs.declared.types.VectorSize.{VectorSize}
use Rattle.naga_typing.specs.Resolutions.{inner_in}
use Rattle.naga_typing.specs.Sameness.{are_same}
use Rattle.naga_typing.specs.declared.typifier.TypeResolution.{TypeResolution}
use Rattle.naga_typing.specs.declared.typifier.TypeResolution.TheVariants.{Handle}
use Rattle.naga_types.specs.Checks.{first, first_error_or, require}
use Rattle.naga_types.specs.Layouts.{saturated}
use Rattle.naga_types.specs.declared.error.ComposeError.{ComposeError}
use Rattle.naga_types.specs.declared.error.ComposeError.TheVariants.{ComponentCount, ComponentType, Type_}

-- whether a type is `scalar`, or a vector of it
abbrev pub is_part_of : ScalarType → Option TypeInner → Boolean
is_part_of scalar (Some (Scalar s)) = of_scalar.ghosts.eq s scalar
is_part_of scalar (Some (Vector size s)) = of_scalar.ghosts.eq s scalar
is_part_of _ _ = false

-- how many components of a vector a value of a type makes: as many as it has, if it is a vector itself
abbrev pub parts_in : Option TypeInner → ℕ
parts_in (Some (Vector size scalar)) = components size
parts_in _ = 1

-- whether a type is a vector of `rows` components of `scalar`
abbrev pub is_vector_of : VectorSize → ScalarType → Option TypeInner → Boolean
is_vector_of rows scalar (Some (Vector size s)) = of_size.ghosts.eq size rows && of_scalar.ghosts.eq s scalar
is_vector_of _ _ _ = false

-- whether `r` is of the type of index `t`
abbrev pub is_of : List «Type» → ℕ → TypeResolution → Boolean
is_of types t r = are_same types (Handle t) r

-- the error, unless the component `at.1` fits at its place, `at.0`
abbrev pub component_type_error : (ℕ × TypeResolution → Boolean) → ℕ × TypeResolution → Option ComposeError
component_type_error fits at = require (fits at) (ComponentType (saturated at.0))

-- the error of the first component that does not fit
abbrev pub first_component_type_error : (ℕ × TypeResolution → Boolean) → List TypeResolution → Option ComposeError
first_component_type_error fits given = first (map (component_type_error fits) (enumerate_from 0 given))

-- the error, unless as many components are `given` as are `expected`
abbrev pub component_count_error : ℕ → ℕ → Option ComposeError
component_count_error given expected =
    require (given == expected) (ComponentCount (saturated given) (saturated expected))

-- how many components of a vector the components `given` make
abbrev pub all_parts : List «Type» → List TypeResolution → ℕ
all_parts types given = sum_by (λ r. parts_in (inner_in types r)) given

-- the conditions on the components of a value of type `t`: for a vector their types come first, and then their number;
-- for all other types the number comes first
abbrev pub compose_checks : List «Type» → ℕ → Option TypeInner → List TypeResolution → List (Option ComposeError)
compose_checks types t (Some (Vector size scalar)) given =
    first_component_type_error (λ at. is_part_of scalar (inner_in types at.1)) given
    ∷ component_count_error (all_parts types given) (components size) ∷ []
compose_checks types t (Some (Matrix columns rows scalar)) given =
    component_count_error (length given) (components columns)
    ∷ first_component_type_error (λ at. is_vector_of rows scalar (inner_in types at.1)) given ∷ []
compose_checks types t (Some (Array base (Constant count) stride)) given =
    component_count_error (length given) count.value ∷ first_component_type_error (λ at. is_of types base at.1) given
    ∷ []
compose_checks types t (Some (Struct members span)) given =
    component_count_error (length given) (length members)
    ∷ first_component_type_error (λ at. option_map_or (λ (m : StructMember). is_of types m.ty at.1)
    (slice_get members at.0) false) given ∷ []
compose_checks _ t _ _ = Some (Type_ t) ∷ []

-- whether a value of the type of index `t` may be composed of the components `given`, or the error
abbrev pub compose_rule : List «Type» → ℕ → List TypeResolution → Result (Unit {0}) ComposeError
compose_rule types t given = first_error_or (compose_checks types t (inner_in types (Handle t)) given) tt

-- a resolution, or if there is none the first type
abbrev pub resolution_in : Option TypeResolution → TypeResolution
resolution_in (Some r) = r
resolution_in None = Handle 0

-- the resolutions at some places
abbrev pub resolutions_at : List ℕ → List TypeResolution → List TypeResolution
resolutions_at places resolutions = map (λ e. resolution_in (slice_get resolutions e)) places
