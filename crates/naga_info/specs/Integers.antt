-- The integers in a constant expression.
use Rattle.std.specs.Prelude.{◌≡◌, ℕ, ℤ, pos, Bool as Boolean, true, Option, Some, None, Contains, List, slice_get}
use Rattle.naga_ir.specs.declared.expression.Expression.{Expression}
use Rattle.naga_ir.specs.declared.expression.Expression.TheVariants as form
use Rattle.naga_ir.specs.declared.expression.Literal.{Literal}
use Rattle.naga_ir.specs.declared.expression.Literal.TheVariants as literal
use Rattle.naga_ir.specs.declared.ir.Constant.{Constant}
use Rattle.naga_ir.specs.declared.ir.Function.{Function}
use Rattle.naga_ir.specs.declared.ir.Module.{Module}
use Rattle.naga_ir.specs.declared.types.VectorSize.{VectorSize}
use Rattle.naga_info.specs.Surroundings.{form_in}
use Rattle.naga_info.specs.Words.{consists_of}
use Rattle.naga_info.specs.declared.sources.Place.{Place}
use Rattle.naga_info.specs.declared.sources.Place.TheVariants as place
use Rattle.naga_types.specs.TypeRule.{is_integer}
use Rattle.naga_typing.specs.Resolutions.{inner_in}
use Rattle.naga_typing.specs.declared.typifier.TypeResolution.TheVariants.{Handle}

-- where the constant expressions of a function are: in the function, and in its module
pub record Scope : Type 0 where
  pub «module» : Module
  pub function : Function

-- where the constant expressions of function `f` of module `m` are
abbrev pub scope_in : Module → Function → Scope
scope_in m f = record { «module» = m; function = f }

-- the expression at a place
abbrev pub expression_at : Scope → Place → Option Expression
expression_at s (place.InFunction e) = slice_get s.function.expressions e
expression_at s (place.InModule e) = slice_get s.«module».global_expressions e

-- the place of an operand of the expression at a place
abbrev pub operand_place : Place → ℕ → Place
operand_place (place.InFunction e) o = place.InFunction o
operand_place (place.InModule e) o = place.InModule o

-- the value of a literal, if it is an integer with a width of its own
abbrev pub integer_of : Literal → Option ℤ
integer_of (literal.U16 n) = Some (pos n)
integer_of (literal.U32 n) = Some (pos n)
integer_of (literal.U64 n) = Some (pos n)
integer_of (literal.I16 n) = Some n
integer_of (literal.I32 n) = Some n
integer_of (literal.I64 n) = Some n
integer_of _ = None

-- the zero of a type is an integer, or a vector of integers
abbrev pub is_integer_zero : Scope → ℕ → Boolean
is_integer_zero s ty = consists_of (λ scalar. is_integer scalar.kind) (form_in (inner_in s.«module».types (Handle ty)))

-- a number is the integer that an expression is by itself: a literal, or the zero of an integer or of a vector of
-- integers
pub data IsOwnInteger (s : Scope) : Expression → ℤ → Type 0 where
  literal_value : (value : Literal) (n : ℤ) → integer_of value ≡ Some n → IsOwnInteger s (form.Literal value) n
  zero_value : (ty : ℕ) → is_integer_zero s ty ≡ true → IsOwnInteger s (form.ZeroValue ty) (pos 0)

-- a number is in the expression at a place: the expression is that integer itself, or the number is in what is
-- splatted, in a component, or in the initialiser of a constant
pub data ContainsInteger (s : Scope) : Place → ℤ → Type 0 where
  itself : (p : Place) (x : Expression) (n : ℤ) → expression_at s p ≡ Some x → IsOwnInteger s x n
      → ContainsInteger s p n
  splatted : (p : Place) (size : VectorSize) (value : ℕ) (n : ℤ) → expression_at s p ≡ Some (form.Splat size value)
      → ContainsInteger s (operand_place p value) n → ContainsInteger s p n
  component : (p : Place) (ty : ℕ) (components : List ℕ) (c : ℕ) (n : ℤ)
      → expression_at s p ≡ Some (form.Compose ty components) → Contains components c
      → ContainsInteger s (operand_place p c) n → ContainsInteger s p n
  initialiser : (p : Place) (c : ℕ) (d : Constant) (n : ℤ) → expression_at s p ≡ Some (form.Constant c)
      → slice_get s.«module».constants c ≡ Some d → ContainsInteger s (place.InModule d.init) n → ContainsInteger s p n
