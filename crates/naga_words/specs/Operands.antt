-- What the readers of one operand return, or of a few that belong together.
use Rattle.std.specs.Prelude.{◌==◌, ◌/◌, ◌%◌, ℕ, zero, suc, List, [], ◌∷◌, Option, Some, None, if◌then◌else◌, nat_le, option_and_then, slice_get}
use Rattle.std.specs.Int.{w16, w32, w64, cast_signed}
use Rattle.std.proofs.Math.Nat.{zero-lt-suc}
use Rattle.std.specs.declared.num.NonZeroU32.{NonZeroU32}
use Rattle.naga_arena.specs.Numbers.{largest_u8, largest_u32}
use Rattle.naga_ir.specs.BuiltIns.{built_ins}
use Rattle.naga_ir.specs.declared.expression.CooperativeShape.{CooperativeShape}
use Rattle.naga_ir.specs.declared.expression.ImageQuery.{ImageQuery}
use Rattle.naga_ir.specs.declared.expression.ImageQuery.TheVariants.{Size, NumLevels, NumLayers, NumSamples}
use Rattle.naga_ir.specs.declared.expression.Literal.{Literal}
use Rattle.naga_ir.specs.declared.expression.Literal.TheVariants as literal
use Rattle.naga_ir.specs.declared.expression.SampleLevel.{SampleLevel}
use Rattle.naga_ir.specs.declared.expression.SampleLevel.TheVariants.{Auto, Zero, Exact, Bias, Gradient}
use Rattle.naga_ir.specs.declared.expression.SwizzleComponent.{SwizzleComponent}
use Rattle.naga_ir.specs.declared.ir.ResourceBinding.{ResourceBinding}
use Rattle.naga_ir.specs.declared.types.AddressSpace.{AddressSpace}
use Rattle.naga_ir.specs.declared.types.AddressSpace.TheVariants as space
use Rattle.naga_ir.specs.declared.types.ArraySize.{ArraySize}
use Rattle.naga_ir.specs.declared.types.ArraySize.TheVariants.{Constant, Pending, Dynamic}
use Rattle.naga_ir.specs.declared.types.Binding.{Binding}
use Rattle.naga_ir.specs.declared.types.Binding.TheVariants.{BuiltIn, Location}
use Rattle.naga_ir.specs.declared.types.CooperativeSize.{CooperativeSize}
use Rattle.naga_ir.specs.declared.types.CooperativeSize.TheVariants.{Eight, Sixteen}
use Rattle.naga_ir.specs.declared.types.ImageClass.{ImageClass}
use Rattle.naga_ir.specs.declared.types.ImageClass.TheVariants as class
use Rattle.naga_ir.specs.declared.types.Scalar.{Scalar}
use Rattle.naga_ir.specs.declared.types.VectorSize.{VectorSize}
use Rattle.naga_ir.specs.declared.types.VectorSize.TheVariants.{Bi, Tri, Quad}
use Rattle.naga_words.specs.Numbers.{largest_u16, wide}
use Rattle.naga_words.specs.Tables.{accesses, bools, components, interpolations, kinds, memory_decorations, roles, samplings, storage_formats}

-- what the second reads of the value of the first, as `?` in code
infixl 10 ◌>>=◌
abbrev pub ◌>>=◌ : {A B : Type 0} → Option A → (A → Option B) → Option B
read >>= f = option_and_then f read

-- the word that stands for nothing
abbrev pub none : ℕ
none = largest_u32

-- the index of a word, unless the word stands for nothing
abbrev pub handle_of : ℕ → Option ℕ
handle_of w = if w == none then None else Some w

-- the index of a word, or none
abbrev pub optional_of : ℕ → Option (Option ℕ)
optional_of w = Some (handle_of w)

-- the word of a form that has one
abbrev pub only_of : List ℕ → Option ℕ
only_of (w ∷ []) = Some w
only_of _ = None

-- the index of the word of a form that has one
abbrev pub only_handle_of : List ℕ → Option ℕ
only_handle_of ws = only_of ws >>= handle_of

-- nothing is read of no operands
abbrev pub nothing_of : List ℕ → Option (Unit {0})
nothing_of [] = Some tt
nothing_of _ = None

-- nothing is read of 0, and no other word can stand there
abbrev pub zero_of : ℕ → Option (Unit {0})
zero_of w = if w == 0 then Some tt else None

-- a width in bytes
abbrev pub width_of : ℕ → Option ℕ
width_of w = if nat_le w largest_u8 then Some w else None

-- the scalar of a word for its kind and one for its width
abbrev pub scalar_of : ℕ → ℕ → Option Scalar
scalar_of k w = do
  kind ← slice_get kinds k
  width ← width_of w
  Some (record { kind = kind; width = width })

-- the size that has this number
abbrev pub size_of : ℕ → Option VectorSize
size_of n =
    if n == 2 then Some Bi
    else if n == 3 then Some Tri
    else if n == 4 then Some Quad
    else None

-- the size of a value pointer that has this number, which is none for 0
abbrev pub pointed_size_of : ℕ → Option (Option VectorSize)
pointed_size_of n = if n == 0 then Some None else size_of n >>= (λ size. Some (Some size))

-- the size of a cooperative matrix that has this number
abbrev pub cooperative_size_of : ℕ → Option CooperativeSize
cooperative_size_of n = if n == 8 then Some Eight else if n == 16 then Some Sixteen else None

-- the shape of a cooperative matrix, of its columns, its rows and its role
abbrev pub shape_of : ℕ → ℕ → ℕ → Option CooperativeShape
shape_of c r o = do
  columns ← cooperative_size_of c
  rows ← cooperative_size_of r
  role ← slice_get roles o
  Some (record { columns = columns; rows = rows; role = role })

-- the address space that has a number and no access
abbrev pub plain_space_of : ℕ → Option AddressSpace
plain_space_of w =
    if w == 0 then Some space.Function
    else if w == 1 then Some space.Private
    else if w == 2 then Some space.WorkGroup
    else if w == 3 then Some space.Uniform
    else if w == 5 then Some space.Handle
    else if w == 6 then Some space.Immediate
    else if w == 7 then Some space.TaskPayload
    else if w == 8 then Some space.RayPayload
    else if w == 9 then Some space.IncomingRayPayload
    else None

-- the address space of a number and an access, which only storage has
abbrev pub space_of : ℕ → ℕ → Option AddressSpace
space_of w x =
    if w == 4 then slice_get accesses x >>= (λ access. Some (space.Storage access))
    else zero_of x >>= (λ _. plain_space_of w)

-- a number as a count, which 0 is not
abbrev pub count_of : ℕ → Option NonZeroU32
count_of zero = None
count_of (suc n) = Some (record { value = suc n; ok = zero-lt-suc n })

-- how many elements an array has, of a form and a number
abbrev pub array_size_of : ℕ → ℕ → Option ArraySize
array_size_of z n =
    if z == 0 then count_of n >>= (λ count. Some (Constant count))
    else if z == 1 then handle_of n >>= (λ size. Some (Pending size))
    else if z == 2 then zero_of n >>= (λ _. Some Dynamic)
    else None

-- the source of blending of a form, which one form has
abbrev pub source_of : ℕ → ℕ → Option (Option ℕ)
source_of z b =
    if z == 2 then zero_of b >>= (λ _. Some None)
    else if z == 3 then Some (Some b)
    else None

-- a location, of the four bytes of a word and two numbers
abbrev pub location_of : ℕ → ℕ → ℕ → Option Binding
location_of z a b = do
  blend_src ← source_of (z % 256) b
  interpolation ← slice_get interpolations (z / 256 % 256)
  sampling ← slice_get samplings (z / 65536 % 256)
  per_primitive ← slice_get bools (z / 16777216)
  Some (Location a interpolation sampling blend_src per_primitive)

-- a binding of a word that begins with its form, and two numbers
abbrev pub binding_of : ℕ → ℕ → ℕ → Option (Option Binding)
binding_of z a b =
    if z == 0 then zero_of a >>= (λ _. zero_of b >>= (λ _. Some None))
    else if z == 1 then zero_of b >>= (λ _. slice_get built_ins a >>= (λ value. Some (Some (BuiltIn value))))
    else location_of z a b >>= (λ location. Some (Some location))

-- the binding of a resource, of a form and two numbers, or none
abbrev pub resource_binding_of : ℕ → ℕ → ℕ → Option (Option ResourceBinding)
resource_binding_of z g b =
    if z == 0 then zero_of g >>= (λ _. zero_of b >>= (λ _. Some None))
    else if z == 1 then Some (Some (record { group = g; binding = b }))
    else None

-- the class of an image, of a form and two words
abbrev pub class_of : ℕ → ℕ → ℕ → Option ImageClass
class_of z a b =
    if z == 0 then slice_get kinds a >>= (λ kind. slice_get bools b >>= (λ multi. Some (class.Sampled kind multi)))
    else if z == 1 then zero_of b >>= (λ _. slice_get bools a >>= (λ multi. Some (class.Depth multi)))
    else if z == 2 then slice_get storage_formats a >>= (λ format. slice_get accesses b >>= (λ access. Some (class.Storage format access)))
    else if z == 3 then zero_of a >>= (λ _. zero_of b >>= (λ _. Some class.External))
    else None

-- a component, or none
abbrev pub optional_component_of : ℕ → Option (Option SwizzleComponent)
optional_component_of w =
    if w == none then Some None
    else slice_get components w >>= (λ component. Some (Some component))

-- the width that a value is converted to, or none
abbrev pub converted_width_of : ℕ → Option (Option ℕ)
converted_width_of w =
    if w == none then Some None
    else width_of w >>= (λ width. Some (Some width))

-- the level of a sample, of a form and two words
abbrev pub level_of : ℕ → ℕ → ℕ → Option SampleLevel
level_of z a b =
    if z == 4 then handle_of a >>= (λ x. handle_of b >>= (λ y. Some (Gradient x y)))
    else zero_of b >>= (λ _.
    if z == 0 then zero_of a >>= (λ _. Some Auto)
    else if z == 1 then zero_of a >>= (λ _. Some Zero)
    else if z == 2 then handle_of a >>= (λ e. Some (Exact e))
    else if z == 3 then handle_of a >>= (λ e. Some (Bias e))
    else None)

-- a query of an image, of a form and a word
abbrev pub query_of : ℕ → ℕ → Option ImageQuery
query_of z a =
    if z == 0 then Some (Size (handle_of a))
    else zero_of a >>= (λ _.
    if z == 1 then Some NumLevels
    else if z == 2 then Some NumLayers
    else if z == 3 then Some NumSamples
    else None)

-- a number of 32 bits in two words
abbrev pub short_of : ℕ → ℕ → Option ℕ
short_of low high = if high == 0 then Some low else None

-- a number of 16 bits in two words
abbrev pub narrow_of : ℕ → ℕ → Option ℕ
narrow_of low high = if high == 0 then (if nat_le low largest_u16 then Some low else None) else None

-- the literal of a form and of the two words of its value
abbrev pub literal_of : ℕ → ℕ → ℕ → Option Literal
literal_of z a b =
    if z == 0 then Some (literal.F64 (wide a b))
    else if z == 1 then short_of a b >>= (λ n. Some (literal.F32 n))
    else if z == 2 then narrow_of a b >>= (λ n. Some (literal.F16 n))
    else if z == 3 then narrow_of a b >>= (λ n. Some (literal.U16 n))
    else if z == 4 then narrow_of a b >>= (λ n. Some (literal.I16 (cast_signed w16 n)))
    else if z == 5 then short_of a b >>= (λ n. Some (literal.U32 n))
    else if z == 6 then short_of a b >>= (λ n. Some (literal.I32 (cast_signed w32 n)))
    else if z == 7 then Some (literal.U64 (wide a b))
    else if z == 8 then Some (literal.I64 (cast_signed w64 (wide a b)))
    else if z == 9 then short_of a b >>= (λ n. slice_get bools n >>= (λ value. Some (literal.Bool value)))
    else if z == 10 then Some (literal.AbstractInt (cast_signed w64 (wide a b)))
    else if z == 11 then Some (literal.AbstractFloat (wide a b))
    else None
