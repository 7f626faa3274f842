-- What an expression is, by where it has its value from.
use Rattle.std.proofs.Common.{◌≡◌, ℕ, Some}
use Rattle.naga_ir.specs.Origins.{origin}
use Rattle.naga_ir.specs.References.{components_of, named_type}
use Rattle.naga_ir.specs.declared.expression.Expression.{Expression}
use Rattle.naga_ir.specs.declared.expression.Expression.TheVariants as form
use Rattle.naga_ir.specs.declared.expression.Literal.{Literal}
use Rattle.naga_ir.specs.declared.origin.Origin.TheVariants as from
use Rattle.naga_ir.specs.declared.types.VectorSize.{VectorSize}

pub literal_by_origin : (x : Expression) (value : Literal) → origin x ≡ from.Literal value → x ≡ form.Literal value
literal_by_origin (form.Literal v) value e = cc e
literal_by_origin _ value e = cc e

pub constant_by_origin : (x : Expression) (c : ℕ) → origin x ≡ from.Constant c → x ≡ form.Constant c
constant_by_origin (form.Constant d) c e = cc e
constant_by_origin _ c e = cc e

pub zero_by_origin : (x : Expression) (ty : ℕ) → origin x ≡ from.ZeroValue ty → x ≡ form.ZeroValue ty
zero_by_origin (form.ZeroValue t) ty e = cc e
zero_by_origin _ ty e = cc e

-- a zero value names its type
pub zero_names : (x : Expression) (ty : ℕ) → origin x ≡ from.ZeroValue ty → named_type x ≡ Some ty
unfolding named_type
zero_names (form.ZeroValue t) ty e = cc e
zero_names _ ty e = cc e

pub composition_by_origin : (x : Expression) (ty : ℕ) → origin x ≡ from.Compose ty → x ≡ form.Compose ty (components_of x)
composition_by_origin (form.Compose t components) ty e = cc e
composition_by_origin _ ty e = cc e

pub splat_by_origin : (x : Expression) (value : ℕ) → origin x ≡ from.Splat value → (size : VectorSize) × (x ≡ form.Splat size value)
splat_by_origin (form.Splat size v) value e = (size, cc e)
splat_by_origin _ value e = absurd (cc e)
