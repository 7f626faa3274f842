-- The names of errors: of each variant its name in naga, or in the code if naga has no such variant.
use Rattle.std.specs.Prelude.{ℕ, List, codes}
use Rattle.naga_typing.specs.declared.typifier.ResolveError.{ResolveError}
use Rattle.naga_typing.specs.declared.typifier.ResolveError.TheVariants as resolve_error
use Rattle.naga_typing.specs.declared.layouter.LayoutErrorInner.{LayoutErrorInner}
use Rattle.naga_typing.specs.declared.layouter.LayoutErrorInner.TheVariants as layout_error
use Rattle.naga_typing.specs.declared.index.IndexableLengthError.{IndexableLengthError}
use Rattle.naga_typing.specs.declared.index.IndexableLengthError.TheVariants as indexable_length_error
use Rattle.naga_typing.specs.declared.context.ConstValueError.{ConstValueError}
use Rattle.naga_typing.specs.declared.context.ConstValueError.TheVariants as const_value_error

-- the name of the reason why an expression has no type
abbrev pub resolve_error_name : ResolveError → List ℕ
resolve_error_name resolve_error.IncompatibleOperands = codes "IncompatibleOperands"
resolve_error_name resolve_error.NotResolvable = codes "NotResolvable"
resolve_error_name resolve_error.OutOfMemory = codes "OutOfMemory"

-- the name of the reason why a type has no layout
abbrev pub layout_error_name : LayoutErrorInner → List ℕ
layout_error_name layout_error.TooLarge = codes "TooLarge"
layout_error_name layout_error.NonPowerOfTwoWidth = codes "NonPowerOfTwoWidth"
layout_error_name layout_error.OutOfMemory = codes "OutOfMemory"

-- the name of the reason why a type has no indexable length
abbrev pub indexable_length_error_name : IndexableLengthError → List ℕ
indexable_length_error_name indexable_length_error.TypeNotIndexable = codes "TypeNotIndexable"
indexable_length_error_name indexable_length_error.InvalidArrayLength = codes "InvalidArrayLength"

-- the name of the reason why an expression is not an index constant
abbrev pub const_value_error_name : ConstValueError → List ℕ
const_value_error_name const_value_error.NonConst = codes "NonConst"
const_value_error_name const_value_error.Negative = codes "Negative"
const_value_error_name const_value_error.InvalidType = codes "InvalidType"
