-- Index constants: expressions that give a number of elements or the index of one, known when a shader is compiled.
use Rattle.std.specs.Prelude.{◌==◌, ◌||◌, ◌<◌, ℕ, ℤ, pos, negsuc, zero, suc, Bool as Boolean, false, List, Option, Some, None, Result, Ok, Err, option_and_then, slice_get, length, All, ⊤, if◌then◌else◌}
use Rattle.std.specs.List.{flat_map}
use Rattle.std.specs.Option.{option_map_or}
use Rattle.naga_ir.specs.Handles.{initialiser_of}
use Rattle.naga_ir.specs.ItemReferences.{GlobalLists, expression_references}
use Rattle.naga_ir.specs.declared.expression.Expression.{Expression}
use Rattle.naga_ir.specs.declared.expression.Expression.TheVariants as expression
use Rattle.naga_ir.specs.declared.expression.Literal.{Literal}
use Rattle.naga_ir.specs.declared.expression.Literal.TheVariants as literal
use Rattle.naga_ir.specs.declared.reference.Reference.{Reference}
use Rattle.naga_ir.specs.declared.reference.Reference.TheVariants as to
use Rattle.naga_ir.specs.declared.ir.Constant.{Constant}
use Rattle.naga_ir.specs.declared.types.«Type».{«Type»}
use Rattle.naga_ir.specs.declared.types.TypeInner.{TypeInner}
use Rattle.naga_ir.specs.declared.types.TypeInner.TheVariants as form
use Rattle.naga_ir.specs.declared.types.Scalar.{Scalar}
use Rattle.naga_ir.specs.declared.types.ScalarKind.TheVariants.{Sint, Uint, Float, Bool, AbstractInt, AbstractFloat}
use Rattle.naga_typing.specs.declared.context.ConstValueError.{ConstValueError}
use Rattle.naga_typing.specs.declared.context.ConstValueError.TheVariants.{NonConst, Negative, InvalidType}

-- a signed integer is an index if it is not negative
abbrev pub not_negative : ℤ → Result ℕ ConstValueError
not_negative (pos n) = Ok n
not_negative (negsuc n) = Err Negative

-- a literal is an index if it is an integer of two or four bytes that is not negative
abbrev pub literal_index : Literal → Result ℕ ConstValueError
literal_index (literal.U16 n) = Ok n
literal_index (literal.U32 n) = Ok n
literal_index (literal.I16 n) = not_negative n
literal_index (literal.I32 n) = not_negative n
literal_index _ = Err InvalidType

-- values of a scalar type can be indexes: integers of two or four bytes
abbrev pub is_index_type : Scalar → Boolean
is_index_type s = elim s.kind [
  | Sint ↦ s.width == 2 || s.width == 4
  | Uint ↦ s.width == 2 || s.width == 4
  | Float ↦ false
  | Bool ↦ false
  | AbstractInt ↦ false
  | AbstractFloat ↦ false
]

-- the zero of a scalar type is an index if values of the type can be
abbrev pub zero_index : TypeInner → Result ℕ ConstValueError
zero_index (form.Scalar s) = if is_index_type s then Ok 0 else Err InvalidType
zero_index _ = Err NonConst

-- the index that an expression gives by itself: a constant gives none
abbrev pub unnamed_index_of : List «Type» → Expression → Result ℕ ConstValueError
unnamed_index_of types (expression.Literal value) = literal_index value
unnamed_index_of types (expression.ZeroValue ty) =
    option_map_or (λ (t : «Type»). zero_index t.inner) (slice_get types ty) (Err NonConst)
unnamed_index_of _ _ = Err NonConst

-- the index that an expression of a list gives by itself
abbrev pub unnamed_index : List «Type» → Option Expression → Result ℕ ConstValueError
unnamed_index types None = Err NonConst
unnamed_index types (Some x) = unnamed_index_of types x

-- the index that an expression gives: for a constant the index of its initialiser, unless that is a constant again
abbrev pub index_of : GlobalLists → Option Expression → Result ℕ ConstValueError
index_of g (Some (expression.Constant c)) = option_map_or (λ (d : Constant). unnamed_index g.types (slice_get g.expressions d.init)) (slice_get g.constants c) (Err NonConst)
index_of g x = unnamed_index g.types x

-- a count is an index above 0
abbrev pub count_of_index : Result ℕ ConstValueError → Option ℕ
count_of_index (Ok zero) = None
count_of_index (Ok (suc n)) = Some (suc n)
count_of_index (Err e) = None

-- the count that an override gives by its initialiser
abbrev pub override_count : GlobalLists → ℕ → Option ℕ
override_count g o = option_and_then (λ e. count_of_index (index_of g (slice_get g.expressions e))) (initialiser_of (slice_get g.overrides o))

-- what is referred to exists if it is a type, a constant or an override
abbrev pub NamedItemExists : GlobalLists → Reference → Type 0
NamedItemExists g (to.Type_ t) = t < length g.types
NamedItemExists g (to.Constant c) = c < length g.constants
NamedItemExists g (to.Override o) = o < length g.overrides
NamedItemExists _ _ = ⊤

-- each type, constant and override that expressions name exists
abbrev pub NamedItemsExist : GlobalLists → List Expression → Type 0
NamedItemsExist g xs = All (NamedItemExists g) (flat_map expression_references xs)
