-- The types that `FullTyping` resolves.
use Rattle.std.specs.Prelude.{◌&&◌, ℕ, Bool as Boolean, false, List, [], ◌∷◌, Option, Some, None, Ok, Err, option_and_then, option_map, slice_get, take}
use Rattle.std.specs.List.{find}
use Rattle.std.specs.Option.{option_map_or}
use Rattle.naga_ir.specs.StorageFormats.{format_scalar}
use Rattle.naga_ir.specs.TypeWords.{scalar_of}
use Rattle.naga_ir.specs.declared.expression.BinaryOperator.{BinaryOperator}
use Rattle.naga_ir.specs.declared.expression.BinaryOperator.TheVariants.{Multiply}
use Rattle.naga_ir.specs.declared.expression.CooperativeShape.{CooperativeShape}
use Rattle.naga_ir.specs.declared.expression.Expression.{Expression}
use Rattle.naga_ir.specs.declared.expression.Expression.TheVariants as form
use Rattle.naga_ir.specs.declared.expression.ImageQuery.{ImageQuery as Query}
use Rattle.naga_ir.specs.declared.expression.ImageQuery.TheVariants.{Size}
use Rattle.naga_ir.specs.declared.expression.MathFunction.{MathFunction}
use Rattle.naga_ir.specs.declared.expression.MathFunction.TheVariants.{Modf, Frexp}
use Rattle.naga_ir.specs.declared.expression.SwizzleComponent.{SwizzleComponent}
use Rattle.naga_ir.specs.declared.ir.Function.{Function}
use Rattle.naga_ir.specs.declared.ir.FunctionResult.{FunctionResult}
use Rattle.naga_ir.specs.declared.ir.GlobalVariable.{GlobalVariable}
use Rattle.naga_ir.specs.declared.ir.Module.{Module}
use Rattle.naga_ir.specs.declared.types.«Type».{«Type»}
use Rattle.naga_ir.specs.declared.types.AddressSpace.{AddressSpace}
use Rattle.naga_ir.specs.declared.types.AddressSpace.TheVariants as space
use Rattle.naga_ir.specs.declared.types.ImageClass.{ImageClass}
use Rattle.naga_ir.specs.declared.types.ImageClass.TheVariants.{Sampled, Depth, Storage, External}
use Rattle.naga_ir.specs.declared.types.ImageDimension.{ImageDimension}
use Rattle.naga_ir.specs.declared.types.ImageDimension.TheVariants.{D1, D2, D3, Cube}
use Rattle.naga_ir.specs.declared.types.Scalar.{Scalar as ScalarType}
use Rattle.naga_ir.specs.declared.types.ScalarKind.{ScalarKind}
use Rattle.naga_ir.specs.declared.types.StructMember.{StructMember}
use Rattle.naga_ir.specs.declared.types.TypeInner.{TypeInner}
use Rattle.naga_ir.specs.declared.types.TypeInner.TheVariants.{Scalar, Vector, Matrix, CooperativeMatrix, Atomic, Pointer, ValuePointer, Array, Struct, Image, BindingArray}
use Rattle.naga_ir.specs.declared.types.VectorSize.TheVariants.{Bi, Tri, Quad}
use Rattle.naga_typing.specs.Math.{exponent_type, f32_scalar, of_components, same, u32_scalar}
use Rattle.naga_typing.specs.PlainTyping.{ResolveResult, binary_of, bool_scalar, cast_of, cast_scalar, element_of, of_form, part_of, plain_resolves, product_of, same_type}
use Rattle.naga_typing.specs.Resolutions.{inner_in, operand}
use Rattle.naga_typing.specs.declared.typifier.ResolveError.TheVariants.{IncompatibleOperands, NotResolvable}
use Rattle.naga_typing.specs.declared.typifier.TypeResolution.{TypeResolution}
use Rattle.naga_typing.specs.declared.typifier.TypeResolution.TheVariants.{Handle, Value}

-- a type of the module, if there is one
abbrev pub declared : Option ℕ → ResolveResult
declared None = Err NotResolvable
declared (Some t) = Ok (Handle t)

-- a variable is referred to by a pointer, but images and samplers by themselves
abbrev pub reference_to : ℕ → AddressSpace → TypeResolution
reference_to ty space.Handle = Handle ty
reference_to ty space.Function = Value (Pointer ty space.Function)
reference_to ty space.Private = Value (Pointer ty space.Private)
reference_to ty space.WorkGroup = Value (Pointer ty space.WorkGroup)
reference_to ty space.Uniform = Value (Pointer ty space.Uniform)
reference_to ty (space.Storage access) = Value (Pointer ty (space.Storage access))
reference_to ty space.Immediate = Value (Pointer ty space.Immediate)
reference_to ty space.TaskPayload = Value (Pointer ty space.TaskPayload)
reference_to ty space.RayPayload = Value (Pointer ty space.RayPayload)
reference_to ty space.IncomingRayPayload = Value (Pointer ty space.IncomingRayPayload)

-- the type of a variable of the module
abbrev pub type_of_variable : Option GlobalVariable → ResolveResult
type_of_variable None = Err NotResolvable
type_of_variable (Some v) = Ok (reference_to v.ty v.space)

-- the type of the result of a function, if it has one
abbrev pub result_of : Function → Option ℕ
result_of f = option_map (λ (r : FunctionResult). r.ty) f.result

-- a part of a value: at a constant index, or at one that is computed
abbrev pub part_at : Option ℕ → TypeInner → ResolveResult
part_at None inner = element_of inner
part_at (Some index) inner = part_of index inner

-- a pointer to a member, if there is one
abbrev pub member_pointer : AddressSpace → Option StructMember → ResolveResult
member_pointer space None = Err IncompatibleOperands
member_pointer space (Some m) = Ok (Value (Pointer m.ty space))

-- a pointer to a part, at a constant index or at one that is computed, of what a pointer in a space points to: to the
-- member of a constant index, a vector's scalar, a matrix's column, or the base of an array or of a binding array
abbrev pub part_pointer : Option ℕ → AddressSpace → TypeInner → ResolveResult
part_pointer index space (Struct members span) = member_pointer space (option_and_then (slice_get members) index)
part_pointer index space (Vector size scalar) = Ok (Value (ValuePointer None scalar space))
part_pointer index space (Matrix columns rows scalar) = Ok (Value (ValuePointer (Some rows) scalar space))
part_pointer index space (Array base size stride) = Ok (Value (Pointer base space))
part_pointer index space (BindingArray base size) = Ok (Value (Pointer base space))
part_pointer _ _ _ = Err IncompatibleOperands

-- the result of a rule on a type of a list, if there is one
abbrev pub at_target : List «Type» → ℕ → (TypeInner → ResolveResult) → ResolveResult
at_target types base rule = of_form (inner_in types (Handle base)) rule

-- a part of a value, or a pointer to a part of what a pointer points to
abbrev pub part_in : List «Type» → Option ℕ → TypeInner → ResolveResult
part_in types index (Pointer base space) = at_target types base (part_pointer index space)
part_in types index (ValuePointer (Some size) scalar space) = Ok (Value (ValuePointer None scalar space))
part_in types index (ValuePointer None scalar space) = Err IncompatibleOperands
part_in types index (BindingArray base size) = Ok (Handle base)
part_in types index inner = part_at index inner

-- what is loaded of a type of the module: the scalar of an atomic, and a value of the type itself else
abbrev pub loaded : ℕ → TypeInner → ResolveResult
loaded base (Atomic scalar) = Ok (Value (Scalar scalar))
loaded base _ = Ok (Handle base)

-- what is loaded through a pointer
abbrev pub load_of : List «Type» → TypeInner → ResolveResult
load_of types (Pointer base space) = at_target types base (loaded base)
load_of types (ValuePointer size scalar space) = Ok (Value (of_components (size, scalar)))
load_of _ _ = Err IncompatibleOperands

-- the dimension and the class of an image; other types have none
abbrev pub image_parts : TypeInner → Option (ImageDimension × ImageClass)
image_parts (Image dim arrayed class) = Some (dim, class)
image_parts _ = None

-- the result of a rule on the dimension and the class of an image; other types don't fit
abbrev pub of_image : Option (ImageDimension × ImageClass) → (ImageDimension → ImageClass → ResolveResult)
    → ResolveResult
of_image None rule = Err IncompatibleOperands
of_image (Some parts) rule = rule parts.0 parts.1

-- a vector of four scalars of a kind, of four bytes each
abbrev pub four_of : ScalarKind → ResolveResult
four_of kind = Ok (Value (Vector Quad (record { kind = kind; width = 4 })))

-- a texel of an image: one number of a depth, and else four components
abbrev pub texel_of : ImageClass → ResolveResult
texel_of (Sampled kind multi) = four_of kind
texel_of (Depth multi) = Ok (Value (Scalar f32_scalar))
texel_of (Storage format access) = Ok (Value (Vector Quad (format_scalar format)))
texel_of External = four_of f32_scalar.kind

-- one component of four texels
abbrev pub gathered_of : ImageClass → ResolveResult
gathered_of (Sampled kind multi) = four_of kind
gathered_of _ = four_of f32_scalar.kind

-- a texel, or what is gathered if a component is given
abbrev pub sample_of : Option SwizzleComponent → ImageClass → ResolveResult
sample_of None class = texel_of class
sample_of (Some component) class = gathered_of class

-- a texel of an image, or what is gathered if a component is given; other types don't fit
abbrev pub sample_in : Option SwizzleComponent → TypeInner → ResolveResult
sample_in gather inner = of_image (image_parts inner) (λ dim class. sample_of gather class)

-- the size of an image, in texels, by its dimension; for a cube the size of a face
abbrev pub extent_of : ImageDimension → ResolveResult
extent_of D1 = Ok (Value (Scalar u32_scalar))
extent_of D2 = Ok (Value (Vector Bi u32_scalar))
extent_of D3 = Ok (Value (Vector Tri u32_scalar))
extent_of Cube = Ok (Value (Vector Bi u32_scalar))

-- what a query of an image returns: its size, or a number
abbrev pub query_of : Query → TypeInner → ResolveResult
query_of (Size level) inner = of_image (image_parts inner) (λ dim class. extent_of dim)
query_of _ _ = Ok (Value (Scalar u32_scalar))

-- the scalar of what `inner` points to, if that is a scalar, a vector or a matrix of either kind
abbrev pub target_scalar : List «Type» → TypeInner → Option ScalarType
target_scalar types (Pointer base space) = option_and_then scalar_of (inner_in types (Handle base))
target_scalar types (ValuePointer size scalar space) = Some scalar
target_scalar _ _ = None

-- the cooperative matrix of a shape and a scalar, if there is a scalar
abbrev pub cooperative_matrix : CooperativeShape → Option ScalarType → ResolveResult
cooperative_matrix shape None = Err IncompatibleOperands
cooperative_matrix shape (Some scalar) = Ok (Value (CooperativeMatrix shape.columns shape.rows scalar shape.role))

-- a cooperative matrix from memory, of the scalar of what `pointer` points to, if the shape is said
abbrev pub cooperative_load_of : List «Type» → Option CooperativeShape → Option TypeInner → ResolveResult
cooperative_load_of types None pointer = Err NotResolvable
cooperative_load_of types (Some shape) pointer =
    of_form pointer (λ inner. cooperative_matrix shape (target_scalar types inner))

-- how many of the types that a module predeclares may be structs that functions return: a number, so that a module's
-- expressions take time in proportion to how many they are
abbrev pub most_result_types : ℕ
most_result_types = 64

-- the types that a module predeclares and that may be structs that functions return
abbrev pub result_types : Module → List ℕ
result_types m = take most_result_types m.special_types.others

-- the type `t` of a list is `inner`
abbrev pub is_type : List «Type» → TypeInner → ℕ → Boolean
is_type types inner t = option_map_or (same inner) (inner_in types (Handle t)) false

-- the members of a struct; other types have none
abbrev pub members_of : TypeInner → List StructMember
members_of (Struct members span) = members
members_of _ = []

-- `members` are two, of the types `first` and `second`
abbrev pub are_two : List «Type» → TypeInner → TypeInner → List StructMember → Boolean
are_two types first second (a ∷ b ∷ []) = is_type types first a.ty && is_type types second b.ty
are_two types first second _ = false

-- the type `t` of a list is a struct of two members, of the types `first` and `second`
abbrev pub is_pair : List «Type» → TypeInner → TypeInner → ℕ → Boolean
is_pair types first second t =
    option_map_or (λ inner. are_two types first second (members_of inner)) (inner_in types (Handle t)) false

-- the struct that `fun` returns for an argument of the type `first`: of two such values, or of such a value and its
-- exponents; other functions return none
abbrev pub struct_of : Module → MathFunction → TypeInner → Option ℕ
struct_of m Modf first = find (is_pair m.types first first) (result_types m)
struct_of m Frexp first =
    option_and_then (λ exponent. find (is_pair m.types first exponent) (result_types m)) (exponent_type first)
struct_of m _ first = None

-- what `fun` returns for a first argument of the type `first`: what `PlainTyping` resolves, or a struct of the module
abbrev pub or_struct : Module → MathFunction → Option TypeInner → ResolveResult → ResolveResult
or_struct m fun first (Err NotResolvable) = of_form first (λ inner. declared (struct_of m fun inner))
or_struct m fun first plain = plain

-- the type of the product of `x` and `y`, whose types are `left` and `right`: the type of a cooperative matrix that a
-- scalar is multiplied by, and else the one that `PlainTyping` resolves
abbrev pub full_product_of : ResolveResult → ResolveResult → TypeInner → TypeInner → ResolveResult
full_product_of left right (Scalar s) (CooperativeMatrix columns rows scalar role) = right
full_product_of left right x y = product_of left right x y

-- the type of the product of the operands `left` and `right`
abbrev pub full_product : List «Type» → List TypeResolution → ℕ → ℕ → ResolveResult
full_product types earlier left right =
    of_form (operand types earlier left)
    (λ x. of_form (operand types earlier right)
    (λ y. full_product_of (same_type (slice_get earlier left)) (same_type (slice_get earlier right)) x y))

-- the type of the result of the operator `op` on the operands `left` and `right`
abbrev pub full_binary_of : List «Type» → List TypeResolution → BinaryOperator → ℕ → ℕ → ResolveResult
full_binary_of types earlier Multiply left right = full_product types earlier left right
full_binary_of types earlier op left right = binary_of types earlier op left right

-- the type of `inner` converted to `kind`, and to the width `convert` if one is given: a matrix keeps its kind
abbrev pub full_cast_of : ScalarKind → Option ℕ → TypeInner → ResolveResult
full_cast_of kind convert (Matrix columns rows scalar) =
    Ok (Value (Matrix columns rows (cast_scalar scalar.kind convert scalar)))
full_cast_of kind convert inner = cast_of kind convert inner

-- the type of an expression of the module `m`, by the types `earlier` of those before it; products, conversions and
-- mathematical functions as `full_binary_of`, `full_cast_of` and `or_struct` say
unfoldable pub full_resolves : Module → Expression → List TypeResolution → ResolveResult
full_resolves m (form.Binary op left right) earlier = full_binary_of m.types earlier op left right
full_resolves m (form.As expr kind convert) earlier = of_form (operand m.types earlier expr) (full_cast_of kind convert)
full_resolves m (form.Math fun arg arg1 arg2 arg3) earlier =
    or_struct m fun (operand m.types earlier arg) (plain_resolves m (form.Math fun arg arg1 arg2 arg3) earlier)
full_resolves m (form.Access base index) earlier = of_form (operand m.types earlier base) (part_in m.types None)
full_resolves m (form.AccessIndex base index) earlier =
    of_form (operand m.types earlier base) (part_in m.types (Some index))
full_resolves m (form.GlobalVariable v) earlier = type_of_variable (slice_get m.global_variables v)
full_resolves m (form.Load pointer) earlier = of_form (operand m.types earlier pointer) (load_of m.types)
full_resolves m
    (form.ImageSample image sampler gather coordinate array_index offset level depth_ref clamp_to_edge) earlier =
    of_form (operand m.types earlier image) (sample_in gather)
full_resolves m (form.ImageLoad image coordinate array_index sample level) earlier =
    of_form (operand m.types earlier image) (sample_in None)
full_resolves m (form.ImageQuery image query) earlier = of_form (operand m.types earlier image) (query_of query)
full_resolves m (form.CallResult f) earlier = declared (option_and_then result_of (slice_get m.functions f))
full_resolves m (form.AtomicResult ty comparison) earlier = Ok (Handle ty)
full_resolves m (form.WorkGroupUniformLoadResult ty) earlier = Ok (Handle ty)
full_resolves m form.RayQueryProceedResult earlier = Ok (Value (Scalar bool_scalar))
full_resolves m (form.RayQueryGetIntersection query committed) earlier = declared m.special_types.ray_intersection
full_resolves m (form.RayQueryVertexPositions query committed) earlier = declared m.special_types.ray_vertex_return
full_resolves m form.SubgroupBallotResult earlier = four_of u32_scalar.kind
full_resolves m (form.SubgroupOperationResult ty) earlier = Ok (Handle ty)
full_resolves m (form.CooperativeMultiplyAdd a b c) earlier = same_type (slice_get earlier c)
full_resolves m (form.FunctionArgument index) earlier = Err NotResolvable
full_resolves m (form.LocalVariable v) earlier = Err NotResolvable
full_resolves m (form.CooperativeLoad shape pointer stride) earlier =
    cooperative_load_of m.types shape (operand m.types earlier pointer)
full_resolves m x earlier = plain_resolves m x earlier
