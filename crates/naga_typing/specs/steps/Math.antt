-- What the rows of the code's table of mathematical functions mean.
use Rattle.std.specs.Prelude.{Bool as Boolean, List, Option, Some, map}
use Rattle.naga_ir.specs.declared.types.ScalarKind.{ScalarKind}
use Rattle.naga_ir.specs.declared.types.TypeInner.{TypeInner}
use Rattle.naga_ir.specs.declared.types.TypeInner.TheVariants.{Scalar, Vector}
use Rattle.naga_ir.specs.declared.types.VectorSize.TheVariants.{Bi, Quad}
use Rattle.naga_typing.specs.Math as spec
use Rattle.naga_typing.specs.Math.{consists_of, f32_scalar, i32_scalar, u32_scalar}
use Rattle.naga_typing.specs.declared.math.ConclusionRule.{ConclusionRule}
use Rattle.naga_typing.specs.declared.math.ConclusionRule.TheVariants as conclusion
use Rattle.naga_typing.specs.declared.math.FirstArgument.{FirstArgument}
use Rattle.naga_typing.specs.declared.math.FirstArgument.TheVariants as first
use Rattle.naga_typing.specs.declared.math.FurtherArgument.{FurtherArgument}
use Rattle.naga_typing.specs.declared.math.FurtherArgument.TheVariants as further
use Rattle.naga_typing.specs.declared.math.KnownType.{KnownType}
use Rattle.naga_typing.specs.declared.math.KnownType.TheVariants as known
use Rattle.naga_typing.specs.declared.math.ScalarSet.{ScalarSet}
use Rattle.naga_typing.specs.declared.math.ScalarSet.TheVariants as set
use Rattle.naga_typing.specs.declared.math.Signature.{Signature}

-- the kinds of a set
abbrev pub kinds_of : ScalarSet → List ScalarKind
kinds_of set.Float = spec.float
kinds_of set.Number = spec.number
kinds_of set.Signed = spec.signed
kinds_of set.Integer = spec.integer

-- the type that the code names
abbrev pub known_type : KnownType → TypeInner
known_type known.I32 = Scalar i32_scalar
known_type known.U32 = Scalar u32_scalar
known_type known.TwoF32 = Vector Bi f32_scalar
known_type known.FourF32 = Vector Quad f32_scalar
known_type known.FourI32 = Vector Quad i32_scalar
known_type known.FourU32 = Vector Quad u32_scalar

-- which types a first argument may have
abbrev pub takes_first : FirstArgument → TypeInner → Boolean
takes_first (first.ScalarOrVector scalars) = spec.values_of (kinds_of scalars)
takes_first (first.Vector scalars) = spec.vectors_of (kinds_of scalars)
takes_first (first.VectorOfThree scalars) = consists_of spec.is_three (kinds_of scalars)
takes_first first.Matrix = spec.is_matrix
takes_first first.SquareMatrix = spec.is_square
takes_first (first.SquareMatrixOf scalars) = spec.is_square_of (kinds_of scalars)
takes_first (first.Exactly known) = spec.same (known_type known)

-- which types a further argument may have after a first one
abbrev pub takes_further : FurtherArgument → TypeInner → TypeInner → Boolean
takes_further further.Same = spec.same
takes_further further.SameOrScalar = spec.same_or_scalar
takes_further further.ScalarOfFirst = spec.scalar_of_first
takes_further further.VectorOfScalar = spec.vector_of_scalar
takes_further further.ExponentOfFirst = spec.exponent_of_first
takes_further further.ExactlyU32 = spec.exactly (Scalar u32_scalar)

-- which type the result has, by the types of the first argument and of those after it
abbrev pub concluded : ConclusionRule → TypeInner → List TypeInner → Option TypeInner
concluded conclusion.ArgumentType = spec.argument_type
concluded conclusion.ScalarOfArgument = spec.scalar_type
concluded conclusion.Transposed = spec.transposed
concluded conclusion.MatrixOfArgument = spec.matrix_type
concluded conclusion.OuterProduct = spec.outer_product
concluded (conclusion.Always known) = spec.always (known_type known)
concluded conclusion.OfModule = spec.of_module

-- what a row means
abbrev pub meaning : Signature → spec.Signature
meaning s = record {
  first = takes_first s.first;
  further = map takes_further s.further.now;
  result = concluded s.conclusion;
}
