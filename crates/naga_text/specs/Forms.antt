-- The forms of lines, one equation a form.
use Rattle.std.specs.Int.NonZero.{non_zero_u32_get}
use Rattle.std.specs.Prelude.{◌≡◌, ℕ, ℤ, List, [], ◌∷◌, Option, Some, None, codes, false, map, if◌then◌else◌, ⊤}
use Rattle.naga_arena.specs.Numbers.{largest_u8, largest_u32, largest_u64}
use Rattle.naga_flags.specs.Bits.{all_capabilities, all_validation_flags}
use Rattle.naga_ir.specs.declared.expression.Expression.{Expression as ExpressionType}
use Rattle.naga_ir.specs.declared.expression.Expression.TheVariants as expr
use Rattle.naga_ir.specs.declared.expression.Literal.{Literal}
use Rattle.naga_ir.specs.declared.expression.Literal.TheVariants.{F64, F32, F16, U16, I16, U32, I32, U64, I64, Bool, AbstractInt, AbstractFloat}
use Rattle.naga_ir.specs.Sizes.{components, cooperative_components}
use Rattle.naga_ir.specs.declared.types.ArraySize.{ArraySize}
use Rattle.naga_ir.specs.declared.types.ArraySize.TheVariants as array_size
use Rattle.naga_ir.specs.declared.types.Binding.{Binding}
use Rattle.naga_ir.specs.declared.types.Binding.TheVariants.{Location}
use Rattle.naga_ir.specs.declared.types.StructMember.{StructMember}
use Rattle.naga_ir.specs.declared.types.TypeInner.{TypeInner}
use Rattle.naga_ir.specs.declared.types.TypeInner.TheVariants.{Scalar, Vector, Matrix, CooperativeMatrix, Atomic, Pointer, ValuePointer, Array, Struct, Image, Sampler, AccelerationStructure, RayQuery, BindingArray}
use Rattle.naga_ir.specs.declared.types.VectorSize.{VectorSize}
use Rattle.naga_text.specs.Bytes.{letter_o}
use Rattle.naga_text.specs.Tables.{binary_operators, bools, chosen, classes, dimensions, kinds, roles, spaces, unary_operators}
use Rattle.naga_text.specs.Words.{handle_of, integer_up_to, largest_i16, largest_i32, largest_i64, largest_u16, number_of, number_up_to, pieces_of}
use Rattle.naga_text.specs.declared.line.FixedLine.{FixedLine}
use Rattle.naga_text.specs.declared.line.FixedLine.TheVariants.{Flags, Capabilities, Resolved, Constant, Override, Doc}
use Rattle.naga_text.specs.declared.line.Line.{Line}
use Rattle.naga_text.specs.declared.line.Line.TheVariants.{Type_, Expression, Fixed}

-- which words a part of a form can be
abbrev pub Part : Type 1
Part = List ℕ → Type 0

-- the word of exactly these bytes
abbrev pub exactly : List ℕ → Part
exactly bytes = λ w. w ≡ bytes

-- a word in whose place in a table this value is
abbrev pub place : {A : Type 0} → List (List ℕ × A) → A → Part
place table a = λ w. chosen table w ≡ Some a

-- a word that writes this number, up to `most`
abbrev pub up_to : ℕ → ℕ → Part
up_to most n = λ w. number_up_to most w ≡ Some n

-- a word that writes this integer, up to a limit
abbrev pub integer : ℕ → ℤ → Part
integer most n = λ w. integer_up_to most w ≡ Some n

-- a word that writes this number of 32 bits
abbrev pub u32_word : ℕ → Part
u32_word n = λ w. number_of w ≡ Some n

-- a word that writes the index of this handle
abbrev pub handle : ℕ → Part
handle index = λ w. handle_of w ≡ Some index

-- a word that begins with this byte, and goes on as a part
abbrev pub after_byte : ℕ → Part → Part
after_byte byte part = λ w. (rest : List ℕ) × (w ≡ byte ∷ rest) × part rest

-- a value's part, or a minus if there is none
abbrev pub optional : {A : Type 0} → (A → Part) → Option A → Part
optional part None = exactly (codes "-")
optional part (Some a) = part a

-- no word
abbrev pub never : Part
never = λ w. ⊥

-- words are what the parts can be, one by one
abbrev pub Matches : List Part → List (List ℕ) → Type 0
Matches [] [] = ⊤
Matches [] (w ∷ ws) = ⊥
Matches (part ∷ parts) [] = ⊥
Matches (part ∷ parts) (w ∷ ws) = part w × Matches parts ws

-- the part of how many elements an array has; an override follows the letter o
abbrev pub array_size_part : ArraySize → Part
array_size_part (array_size.Constant n) = u32_word (non_zero_u32_get n)
array_size_part (array_size.Pending size) = after_byte letter_o (handle size)
array_size_part array_size.Dynamic = exactly (codes "dyn")

-- the number of components that a value pointer has, and 0 of none
abbrev pub pointed_components : Option VectorSize → ℕ
pointed_components None = 0
pointed_components (Some size) = components size

-- the pieces of a member's binding; a built-in value can't be written, nor how a location's value is interpolated or
-- that it is one of each primitive
abbrev pub binding_parts : Option Binding → List Part
binding_parts None = []
binding_parts (Some (Location location None None None false)) = u32_word location ∷ []
binding_parts (Some (Location location None None (Some blend_src) false)) = u32_word location ∷ u32_word blend_src ∷ []
binding_parts _ = never ∷ []

-- the part of a member of a struct: its type, its offset and its binding, which colons part; a name can't be written
abbrev pub member_part : StructMember → Part
member_part m = λ w. (m.name ≡ None) × Matches (handle m.ty ∷ u32_word m.offset ∷ binding_parts m.binding) (pieces_of w)

-- the parts of a type's line, after the word `type`
abbrev pub type_form : TypeInner → List Part
type_form (Scalar s) = exactly (codes "scalar") ∷ place kinds s.kind ∷ up_to largest_u8 s.width ∷ []
type_form (Vector size s) = exactly (codes "vector") ∷ up_to 4 (components size) ∷ place kinds s.kind ∷ up_to largest_u8 s.width ∷ []
type_form (Matrix columns rows s) =
    exactly (codes "matrix") ∷ up_to 4 (components columns) ∷ up_to 4 (components rows) ∷ place kinds s.kind ∷ up_to largest_u8 s.width ∷ []
type_form (CooperativeMatrix columns rows s role) =
    exactly (codes "coop") ∷ up_to 16 (cooperative_components columns) ∷ up_to 16 (cooperative_components rows) ∷ place kinds s.kind ∷ up_to largest_u8 s.width ∷ place roles role ∷ []
type_form (Atomic s) = exactly (codes "atomic") ∷ place kinds s.kind ∷ up_to largest_u8 s.width ∷ []
type_form (Pointer base space) = exactly (codes "pointer") ∷ handle base ∷ place spaces space ∷ []
type_form (ValuePointer size s space) =
    exactly (codes "valuepointer") ∷ up_to 4 (pointed_components size) ∷ place kinds s.kind ∷ up_to largest_u8 s.width ∷ place spaces space ∷ []
type_form (Array base size stride) = exactly (codes "array") ∷ handle base ∷ array_size_part size ∷ u32_word stride ∷ []
type_form (Struct members span) = exactly (codes "struct") ∷ u32_word span ∷ map member_part members
type_form (Image dim arrayed class) = exactly (codes "image") ∷ place dimensions dim ∷ place bools arrayed ∷ place classes class ∷ []
type_form (Sampler comparison) = exactly (codes "sampler") ∷ place bools comparison ∷ []
type_form (AccelerationStructure vertex_return) = exactly (codes "accel") ∷ place bools vertex_return ∷ []
type_form (RayQuery vertex_return) = exactly (codes "rayquery") ∷ place bools vertex_return ∷ []
type_form (BindingArray base size) = exactly (codes "bindingarray") ∷ handle base ∷ array_size_part size ∷ []

-- the parts of a literal: its type and its value; a floating-point number is written as its bits
abbrev pub literal_form : Literal → List Part
literal_form (F64 bits) = exactly (codes "f64") ∷ up_to largest_u64 bits ∷ []
literal_form (F32 bits) = exactly (codes "f32") ∷ up_to largest_u32 bits ∷ []
literal_form (F16 bits) = exactly (codes "f16") ∷ up_to largest_u16 bits ∷ []
literal_form (U16 value) = exactly (codes "u16") ∷ up_to largest_u16 value ∷ []
literal_form (I16 value) = exactly (codes "i16") ∷ integer largest_i16 value ∷ []
literal_form (U32 value) = exactly (codes "u32") ∷ up_to largest_u32 value ∷ []
literal_form (I32 value) = exactly (codes "i32") ∷ integer largest_i32 value ∷ []
literal_form (U64 value) = exactly (codes "u64") ∷ up_to largest_u64 value ∷ []
literal_form (I64 value) = exactly (codes "i64") ∷ integer largest_i64 value ∷ []
literal_form (Bool value) = exactly (codes "bool") ∷ up_to 1 (if value then 1 else 0) ∷ []
literal_form (AbstractInt value) = exactly (codes "aint") ∷ integer largest_i64 value ∷ []
literal_form (AbstractFloat bits) = exactly (codes "afloat") ∷ up_to largest_u64 bits ∷ []

-- the parts of an expression's line, after the word `expr`; most expressions can't be written
abbrev pub expression_form : ExpressionType → List Part
expression_form (expr.Literal value) = exactly (codes "lit") ∷ literal_form value
expression_form (expr.Constant constant) = exactly (codes "const") ∷ handle constant ∷ []
expression_form (expr.Override id) = exactly (codes "override") ∷ handle id ∷ []
expression_form (expr.ZeroValue ty) = exactly (codes "zero") ∷ handle ty ∷ []
expression_form (expr.Compose ty components) = exactly (codes "compose") ∷ handle ty ∷ map handle components
expression_form (expr.Splat size value) = exactly (codes "splat") ∷ up_to 4 (components size) ∷ handle value ∷ []
expression_form (expr.Unary op value) = exactly (codes "unary") ∷ place unary_operators op ∷ handle value ∷ []
expression_form (expr.Binary op left right) = exactly (codes "binary") ∷ place binary_operators op ∷ handle left ∷ handle right ∷ []
expression_form (expr.Access base index) = never ∷ []
expression_form (expr.AccessIndex base index) = never ∷ []
expression_form (expr.Swizzle size vector pattern) = never ∷ []
expression_form (expr.FunctionArgument index) = never ∷ []
expression_form (expr.GlobalVariable variable) = never ∷ []
expression_form (expr.LocalVariable variable) = never ∷ []
expression_form (expr.Load pointer) = never ∷ []
expression_form (expr.ImageSample image sampler gather coordinate array_index offset level depth_ref clamp_to_edge) = never ∷ []
expression_form (expr.ImageLoad image coordinate array_index sample level) = never ∷ []
expression_form (expr.ImageQuery image query) = never ∷ []
expression_form (expr.Select condition accept reject) = never ∷ []
expression_form (expr.Derivative value) = never ∷ []
expression_form (expr.Relational fun argument) = never ∷ []
expression_form (expr.Math fun arg arg1 arg2 arg3) = never ∷ []
expression_form (expr.As value kind convert) = never ∷ []
expression_form (expr.CallResult function) = never ∷ []
expression_form (expr.AtomicResult ty comparison) = never ∷ []
expression_form (expr.WorkGroupUniformLoadResult ty) = never ∷ []
expression_form (expr.ArrayLength pointer) = never ∷ []
expression_form expr.RayQueryProceedResult = never ∷ []
expression_form (expr.RayQueryGetIntersection query committed) = never ∷ []
expression_form (expr.RayQueryVertexPositions query committed) = never ∷ []
expression_form expr.SubgroupBallotResult = never ∷ []
expression_form (expr.SubgroupOperationResult ty) = never ∷ []
expression_form (expr.CooperativeLoad shape pointer stride) = never ∷ []
expression_form (expr.CooperativeMultiplyAdd a b c) = never ∷ []

-- the parts of a line of a fixed number of words
abbrev pub fixed_form : FixedLine → List Part
fixed_form (Flags flags) = exactly (codes "flags") ∷ up_to all_validation_flags flags.0 ∷ []
fixed_form (Capabilities capabilities) = exactly (codes "caps") ∷ up_to all_capabilities capabilities.0 ∷ []
fixed_form Resolved = exactly (codes "resolved") ∷ []
fixed_form (Constant ty init) = exactly (codes "const") ∷ handle ty ∷ handle init ∷ []
fixed_form (Override ty init id) =
    exactly (codes "override") ∷ handle ty ∷ optional handle init ∷ optional (up_to largest_u16) id ∷ []
fixed_form (Doc ty member) = exactly (codes "doc") ∷ handle ty ∷ handle member ∷ []

-- the parts of a line
abbrev pub form : Line → List Part
form (Type_ inner) = exactly (codes "type") ∷ type_form inner
form (Expression expression) = exactly (codes "expr") ∷ expression_form expression
form (Fixed line) = fixed_form line

-- `words` are the words of a line that says `line`
abbrev pub IsForm : List (List ℕ) → Line → Type 0
IsForm words line = Matches (form line) words
