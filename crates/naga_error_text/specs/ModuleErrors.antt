-- What is wrong with handles, layouts, constants and overrides.
use Rattle.std.specs.Prelude.{ℕ, List, [], ◌∷◌, codes, decimal, Option, Some, None}
use Rattle.naga_error_text.specs.declared.families.Family.{Family}
use Rattle.naga_error_text.specs.declared.families.Family.TheVariants as family
use Rattle.naga_error_text.specs.declared.names.Names.TheVariants.{ItemKinds}
use Rattle.naga_error_text.specs.declared.pieces.Values.{Values}
use Rattle.naga_error_text.specs.declared.module_errors.HandleError.{HandleError}
use Rattle.naga_error_text.specs.declared.module_errors.HandleError.TheVariants as handle_error
use Rattle.naga_error_text.specs.declared.module_errors.LayoutError.{LayoutError}
use Rattle.naga_error_text.specs.declared.module_errors.LayoutError.TheVariants as layout_error
use Rattle.naga_error_text.specs.declared.module_errors.ConstExpressionError.{ConstExpressionError}
use Rattle.naga_error_text.specs.declared.module_errors.ConstExpressionError.TheVariants as const_expression_error
use Rattle.naga_error_text.specs.declared.module_errors.ConstantError.{ConstantError}
use Rattle.naga_error_text.specs.declared.module_errors.ConstantError.TheVariants as constant_error
use Rattle.naga_error_text.specs.declared.module_errors.OverrideError.{OverrideError}
use Rattle.naga_error_text.specs.declared.module_errors.OverrideError.TheVariants as override_error
use Rattle.naga_error_text.specs.declared.module_errors.ModuleError.{ModuleError}
use Rattle.naga_error_text.specs.declared.module_errors.ModuleError.TheVariants as module_error
use Rattle.naga_error_text.specs.Names.{named}

-- the errors `HandleError` in the order of their numbers, which begin at 1
abbrev pub handle_errors : List HandleError
handle_errors = handle_error.BadHandle ∷ handle_error.ForwardDependency ∷ handle_error.BadRange ∷ []

-- what the text of each `HandleError` says of the values `v`, piece by piece
abbrev pub handle_error_parts : HandleError → Values → List (List ℕ)
handle_error_parts handle_error.BadHandle v =
    codes "Handle " ∷ decimal v.first ∷ codes " of " ∷ named ItemKinds v.kind ∷
    codes " is either not present, or inaccessible yet" ∷ []
handle_error_parts handle_error.ForwardDependency v =
    codes "[" ∷ decimal v.first ∷ codes "] of kind \"" ∷ named ItemKinds v.kind ∷ codes "\" depends on [" ∷
    decimal v.second ∷ codes "] of kind " ∷ named ItemKinds v.kind ∷ codes ", which has not been processed yet" ∷ []
handle_error_parts handle_error.BadRange v =
    codes "Handle range [" ∷ decimal v.first ∷ codes ".." ∷ decimal v.second ∷ codes "] of " ∷
    named ItemKinds v.kind ∷ codes " is either not present, or inaccessible yet" ∷ []

-- the errors `LayoutError` in the order of their numbers, which begin at 1
abbrev pub layout_errors : List LayoutError
layout_errors = layout_error.TooLarge ∷ layout_error.NonPowerOfTwoWidth ∷ []

-- what the text of each `LayoutError` says of the values `v`, piece by piece
abbrev pub layout_error_parts : LayoutError → Values → List (List ℕ)
layout_error_parts layout_error.TooLarge v = codes "The array is larger than 2147483647 bytes" ∷ []
layout_error_parts layout_error.NonPowerOfTwoWidth v = codes "The scalar width is not a power of two" ∷ []

-- the errors `ConstExpressionError` in the order of their numbers, which begin at 1
abbrev pub const_expression_errors : List ConstExpressionError
const_expression_errors =
    const_expression_error.NonConstOrOverride ∷ const_expression_error.NonFullyEvaluatedConst ∷
    const_expression_error.Compose ∷ const_expression_error.InvalidSplatType ∷ const_expression_error.Type_ ∷
    const_expression_error.Literal ∷ const_expression_error.Width ∷ []

-- what the text of each `ConstExpressionError` says of the values `v`, piece by piece
abbrev pub const_expression_error_parts : ConstExpressionError → Values → List (List ℕ)
const_expression_error_parts const_expression_error.NonConstOrOverride v =
    codes "The expression is not a constant or override expression" ∷ []
const_expression_error_parts const_expression_error.NonFullyEvaluatedConst v =
    codes "The expression is not a fully evaluated constant expression" ∷ []
const_expression_error_parts const_expression_error.Compose v = []
const_expression_error_parts const_expression_error.InvalidSplatType v =
    codes "Splatting [" ∷ decimal v.first ∷ codes "] can't be done" ∷ []
const_expression_error_parts const_expression_error.Type_ v = codes "Type resolution failed: " ∷ []
const_expression_error_parts const_expression_error.Literal v = []
const_expression_error_parts const_expression_error.Width v = []

-- what the error within each `ConstExpressionError` is one of, if there is one
abbrev pub const_expression_error_cause : ConstExpressionError → Option Family
const_expression_error_cause const_expression_error.Compose = Some family.Compose
const_expression_error_cause const_expression_error.Type_ = Some family.Resolve
const_expression_error_cause const_expression_error.Literal = Some family.Literal
const_expression_error_cause const_expression_error.Width = Some family.Width
const_expression_error_cause e = None

-- the errors `ConstantError` in the order of their numbers, which begin at 1
abbrev pub constant_errors : List ConstantError
constant_errors =
    constant_error.InitializerExprType ∷ constant_error.InvalidType ∷ constant_error.NonConstructibleType ∷ []

-- what the text of each `ConstantError` says of the values `v`, piece by piece
abbrev pub constant_error_parts : ConstantError → Values → List (List ℕ)
constant_error_parts constant_error.InitializerExprType v = codes "Initializer must be a const-expression" ∷ []
constant_error_parts constant_error.InvalidType v = codes "The type doesn't match the constant" ∷ []
constant_error_parts constant_error.NonConstructibleType v = codes "The type is not constructible" ∷ []

-- the errors `OverrideError` in the order of their numbers, which begin at 1
abbrev pub override_errors : List OverrideError
override_errors =
    override_error.MissingNameAndID ∷ override_error.DuplicateID ∷ override_error.InitializerExprType ∷
    override_error.InvalidType ∷ override_error.NonConstructibleType ∷ override_error.TypeNotScalar ∷
    override_error.NotAllowed ∷ override_error.UninitializedOverride ∷ override_error.ConstExpression ∷ []

-- what the text of each `OverrideError` says of the values `v`, piece by piece
abbrev pub override_error_parts : OverrideError → Values → List (List ℕ)
override_error_parts override_error.MissingNameAndID v = codes "Override name and ID are missing" ∷ []
override_error_parts override_error.DuplicateID v = codes "Override ID must be unique" ∷ []
override_error_parts override_error.InitializerExprType v =
    codes "Initializer must be a const-expression or override-expression" ∷ []
override_error_parts override_error.InvalidType v = codes "The type doesn't match the override" ∷ []
override_error_parts override_error.NonConstructibleType v = codes "The type is not constructible" ∷ []
override_error_parts override_error.TypeNotScalar v = codes "The type is not a scalar" ∷ []
override_error_parts override_error.NotAllowed v = codes "Override declarations are not allowed" ∷ []
override_error_parts override_error.UninitializedOverride v = codes "Override is uninitialized" ∷ []
override_error_parts override_error.ConstExpression v =
    codes "Constant expression [" ∷ decimal v.first ∷ codes "] is invalid: " ∷ []

-- what the error within each `OverrideError` is one of, if there is one
abbrev pub override_error_cause : OverrideError → Option Family
override_error_cause override_error.ConstExpression = Some family.ConstExpression
override_error_cause e = None

-- the errors `ModuleError` in the order of their numbers, which begin at 1
abbrev pub module_errors : List ModuleError
module_errors = module_error.Corrupted ∷ module_error.ArraySize ∷ []

-- what the text of each `ModuleError` says of the values `v`, piece by piece
abbrev pub module_error_parts : ModuleError → Values → List (List ℕ)
module_error_parts module_error.Corrupted v = codes "Module is corrupted" ∷ []
module_error_parts module_error.ArraySize v =
    codes "Array size expression [" ∷ decimal v.first ∷ codes "] is not strictly positive" ∷ []
