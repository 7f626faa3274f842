-- What the readers of literals and expressions return.
use Rattle.std.specs.Prelude.{◌==◌, ℕ, List, [], ◌∷◌, Option, Some, None, codes, option_map}
use Rattle.naga_arena.specs.Numbers.{largest_u32, largest_u64}
use Rattle.naga_ir.specs.declared.expression.Expression.{Expression as ExpressionType}
use Rattle.naga_ir.specs.declared.expression.Expression.TheVariants as expr
use Rattle.naga_ir.specs.declared.expression.Literal.{Literal}
use Rattle.naga_ir.specs.declared.expression.Literal.TheVariants.{F64, F32, F16, U16, I16, U32, I32, U64, I64, Bool, AbstractInt, AbstractFloat}
use Rattle.naga_text.specs.Tables.{binary_operators, chosen, unary_operators}
use Rattle.naga_text.specs.Words.{handle_of, integer_up_to, largest_i16, largest_i32, largest_i64, largest_u16, number_up_to}
use Rattle.naga_text.specs.WordForms.{Reader, ◌>>=◌, read_by, read_each, size_of}

-- the readers of a literal's value, each with the word of its type
abbrev pub literal_readers : List (List ℕ × (List ℕ → Option Literal))
literal_readers =
    (codes "i16", λ w. option_map I16 (integer_up_to largest_i16 w)) ∷
    (codes "u16", λ w. option_map U16 (number_up_to largest_u16 w)) ∷
    (codes "i32", λ w. option_map I32 (integer_up_to largest_i32 w)) ∷
    (codes "u32", λ w. option_map U32 (number_up_to largest_u32 w)) ∷
    (codes "i64", λ w. option_map I64 (integer_up_to largest_i64 w)) ∷
    (codes "u64", λ w. option_map U64 (number_up_to largest_u64 w)) ∷
    (codes "f16", λ w. option_map F16 (number_up_to largest_u16 w)) ∷
    (codes "f32", λ w. option_map F32 (number_up_to largest_u32 w)) ∷
    (codes "f64", λ w. option_map F64 (number_up_to largest_u64 w)) ∷
    (codes "bool", λ w. option_map (λ n. Bool (n == 1)) (number_up_to 1 w)) ∷
    (codes "aint", λ w. option_map AbstractInt (integer_up_to largest_i64 w)) ∷
    (codes "afloat", λ w. option_map AbstractFloat (number_up_to largest_u64 w)) ∷ []

-- the literal of a word for its type and one for its value
abbrev pub literal_of : List ℕ → List ℕ → Option Literal
literal_of t v = do
  reader ← chosen literal_readers t
  reader v

-- the expression of the words after `lit`
abbrev pub literal_expression_of : Reader ExpressionType
literal_expression_of (t ∷ v ∷ []) = do
  literal ← literal_of t v
  Some (expr.Literal literal)
literal_expression_of _ = None

-- the expression of the words after `const`
abbrev pub constant_expression_of : Reader ExpressionType
constant_expression_of (c ∷ []) = do
  constant ← handle_of c
  Some (expr.Constant constant)
constant_expression_of _ = None

-- the expression of the words after `override`
abbrev pub override_expression_of : Reader ExpressionType
override_expression_of (o ∷ []) = do
  id ← handle_of o
  Some (expr.Override id)
override_expression_of _ = None

-- the expression of the words after `zero`
abbrev pub zero_value_of : Reader ExpressionType
zero_value_of (t ∷ []) = do
  ty ← handle_of t
  Some (expr.ZeroValue ty)
zero_value_of _ = None

-- the expression of the words after `compose`
abbrev pub compose_of : Reader ExpressionType
compose_of [] = None
compose_of (t ∷ ws) = do
  ty ← handle_of t
  components ← read_each handle_of ws
  Some (expr.Compose ty components)

-- the expression of the words after `splat`
abbrev pub splat_of : Reader ExpressionType
splat_of (n ∷ e ∷ []) = do
  size ← size_of n
  value ← handle_of e
  Some (expr.Splat size value)
splat_of _ = None

-- the expression of the words after `unary`
abbrev pub unary_of : Reader ExpressionType
unary_of (o ∷ e ∷ []) = do
  op ← chosen unary_operators o
  value ← handle_of e
  Some (expr.Unary op value)
unary_of _ = None

-- the expression of the words after `binary`
abbrev pub binary_of : Reader ExpressionType
binary_of (o ∷ l ∷ r ∷ []) = do
  op ← chosen binary_operators o
  left ← handle_of l
  right ← handle_of r
  Some (expr.Binary op left right)
binary_of _ = None

-- the readers of the words after the form of an expression that has a fixed number of words
abbrev pub fixed_expression_readers : List (List ℕ × Reader ExpressionType)
fixed_expression_readers =
    (codes "lit", literal_expression_of) ∷
    (codes "const", constant_expression_of) ∷
    (codes "override", override_expression_of) ∷
    (codes "zero", zero_value_of) ∷
    (codes "splat", splat_of) ∷
    (codes "unary", unary_of) ∷
    (codes "binary", binary_of) ∷ []

-- the readers of the words after the form of an expression
abbrev pub expression_readers : List (List ℕ × Reader ExpressionType)
expression_readers = (codes "compose", compose_of) ∷ fixed_expression_readers

-- the expression of the words after `expr`
abbrev pub expression_of : Reader ExpressionType
expression_of [] = None
expression_of (form ∷ words) = read_by expression_readers form words
