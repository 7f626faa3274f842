-- What a literal is.
use Rattle.naga_ir.specs.declared.expression.Literal.{Literal}
use Rattle.naga_ir.specs.declared.expression.Literal.TheVariants.{F64, F32, F16, U16, I16, U32, I32, U64, I64, Bool, AbstractInt, AbstractFloat}
use Rattle.naga_ir.specs.declared.types.Scalar.{Scalar}
use Rattle.naga_ir.specs.declared.types.ScalarKind.TheVariants as kind

-- the type of a literal
abbrev pub literal_scalar : Literal → Scalar
literal_scalar (F64 bits) = record { kind = kind.Float; width = 8 }
literal_scalar (F32 bits) = record { kind = kind.Float; width = 4 }
literal_scalar (F16 bits) = record { kind = kind.Float; width = 2 }
literal_scalar (U16 value) = record { kind = kind.Uint; width = 2 }
literal_scalar (I16 value) = record { kind = kind.Sint; width = 2 }
literal_scalar (U32 value) = record { kind = kind.Uint; width = 4 }
literal_scalar (I32 value) = record { kind = kind.Sint; width = 4 }
literal_scalar (U64 value) = record { kind = kind.Uint; width = 8 }
literal_scalar (I64 value) = record { kind = kind.Sint; width = 8 }
literal_scalar (Bool value) = record { kind = kind.Bool; width = 1 }
literal_scalar (AbstractInt value) = record { kind = kind.AbstractInt; width = 8 }
literal_scalar (AbstractFloat bits) = record { kind = kind.AbstractFloat; width = 8 }
