-- The rule of the local variables, the arguments and the result of a function.
use Rattle.std.specs.Prelude.{◌≡◌, ◌<◌, ◌||◌, ℕ, Bool as Boolean, false, List, [], ◌∷◌, Option, Some, None, Result, All, IfSome, IsTrue, is_none, is_some, length, map, option_map, slice_get}
use Rattle.std.specs.List.{enumerate_from, list_any}
use Rattle.naga_arena.specs.Results.{IsResultOf}
use Rattle.naga_flags.specs.Bits.{ARGUMENT, CONSTRUCTIBLE}
use Rattle.naga_flags.specs.Flags.{has}
use Rattle.naga_interface.specs.Surroundings.{AreTypesKnown, InterfaceSurroundings, KnownExpressions, flags_of, form_of, has_type}
use Rattle.naga_interface.specs.declared.error.FunctionDeclarationError.{FunctionDeclarationError}
use Rattle.naga_interface.specs.declared.error.FunctionDeclarationError.TheVariants.{InvalidArgumentPointerSpace, InvalidArgumentType, LocalVariable as LocalVariable_, NonConstructibleReturnType, OutOfMemory, PipelineInputRegularFunction, PipelineOutputRegularFunction}
use Rattle.naga_interface.specs.declared.error.LocalVariableError.{LocalVariableError}
use Rattle.naga_interface.specs.declared.error.LocalVariableError.TheVariants.{InitializerType, InvalidType, NonConstOrOverrideInitializer}
use Rattle.naga_ir.specs.Handles.{OrderedOperands, ReferencesPrecede}
use Rattle.naga_ir.specs.declared.ir.Function.{Function}
use Rattle.naga_ir.specs.declared.ir.FunctionArgument.{FunctionArgument}
use Rattle.naga_ir.specs.declared.ir.FunctionResult.{FunctionResult}
use Rattle.naga_ir.specs.declared.ir.LocalVariable.{LocalVariable}
use Rattle.naga_ir.specs.declared.types.AddressSpace.{AddressSpace}
use Rattle.naga_ir.specs.declared.types.TypeInner.{TypeInner}
use Rattle.naga_ir.specs.declared.types.TypeInner.TheVariants.{Pointer, ValuePointer}
use Rattle.naga_types.specs.Checks.{first, first_error_or, require}
use Rattle.naga_types.specs.FormFlags.{is_argument_space}
use Rattle.naga_typing.specs.Kinds.{AreKinds, is_const_or_override}
use Rattle.naga_typing.specs.Resolutions.{TypesExist}
use Rattle.naga_typing.specs.declared.expression_kind.ExpressionKind.{ExpressionKind}
use Rattle.naga_typing.specs.declared.typifier.TypeResolution.{TypeResolution}

-- the conditions of the initialiser of a variable of the type of index `t`, if it has one: it has this type, and its
-- value is known when a pipeline is created
abbrev pub initialiser_checks : InterfaceSurroundings → KnownExpressions → ℕ → Option ℕ
    → List (Option LocalVariableError)
initialiser_checks s known t None = []
initialiser_checks s known t (Some e) =
    require (has_type s known t e) InitializerType ∷
    require (is_const_or_override (slice_get known.kinds e)) NonConstOrOverrideInitializer ∷ []

-- the conditions of a local variable: a constructible type, and those of its initialiser
abbrev pub local_variable_checks : InterfaceSurroundings → KnownExpressions → LocalVariable
    → List (Option LocalVariableError)
local_variable_checks s known v =
    require (has (flags_of s v.ty) CONSTRUCTIBLE) (InvalidType v.ty) ∷
    first (initialiser_checks s known v.ty v.init) ∷ []

-- a local variable keeps its rule, or the first condition that it breaks gives the error
abbrev pub local_variable_rule : InterfaceSurroundings → KnownExpressions → LocalVariable
    → Result (Unit {0}) LocalVariableError
local_variable_rule s known v = first_error_or (local_variable_checks s known v) tt

-- the error of the local variable `at.1` of index `at.0`
abbrev pub local_variable_error : InterfaceSurroundings → KnownExpressions → ℕ × LocalVariable
    → Option FunctionDeclarationError
local_variable_error s known at = option_map (LocalVariable_ at.0) (first (local_variable_checks s known at.1))

-- the error of the first local variable of a function that is refused
abbrev pub local_variables_error : InterfaceSurroundings → KnownExpressions → List LocalVariable
    → Option FunctionDeclarationError
local_variables_error s known variables = first (map (local_variable_error s known) (enumerate_from 0 variables))

-- the address space that a pointer points into; other types have none
abbrev pub pointer_space : TypeInner → Option AddressSpace
pointer_space (Pointer base space) = Some space
pointer_space (ValuePointer size scalar space) = Some space
pointer_space _ = None

-- the error of a pointer that is the argument of index `i`, by the address space that it points into
abbrev pub space_error : ℕ → Option AddressSpace → Option FunctionDeclarationError
space_error i (Some space) = require (is_argument_space space) (InvalidArgumentPointerSpace i space)
space_error i None = None

-- the error of an argument of index `i`, by its type, if it is a pointer
abbrev pub pointer_error : ℕ → Option TypeInner → Option FunctionDeclarationError
pointer_error i (Some inner) = space_error i (pointer_space inner)
pointer_error i None = None

-- the conditions of the argument `at.1` of index `at.0`: if it is a pointer, the address space that it points into, a
-- type that arguments may have, and no binding except of an entry point
abbrev pub argument_checks : InterfaceSurroundings → Boolean → ℕ × FunctionArgument
    → List (Option FunctionDeclarationError)
argument_checks s is_entry_point at =
    pointer_error at.0 (form_of s at.1.ty) ∷
    require (has (flags_of s at.1.ty) ARGUMENT) (InvalidArgumentType at.0) ∷
    require (is_entry_point || is_none at.1.binding) (PipelineInputRegularFunction at.0) ∷ []

-- the error of the argument `at.1` of index `at.0`
abbrev pub argument_error : InterfaceSurroundings → Boolean → ℕ × FunctionArgument
    → Option FunctionDeclarationError
argument_error s is_entry_point at = first (argument_checks s is_entry_point at)

-- the error of the first argument of a function that is refused
abbrev pub arguments_error : InterfaceSurroundings → Boolean → List FunctionArgument
    → Option FunctionDeclarationError
arguments_error s is_entry_point arguments = first (map (argument_error s is_entry_point) (enumerate_from 0 arguments))

-- the conditions of the result of a function, if it has one: a constructible type, and no binding except of an entry
-- point
abbrev pub result_checks : InterfaceSurroundings → Boolean → Option FunctionResult
    → List (Option FunctionDeclarationError)
result_checks s is_entry_point None = []
result_checks s is_entry_point (Some r) =
    require (has (flags_of s r.ty) CONSTRUCTIBLE) NonConstructibleReturnType ∷
    require (is_entry_point || is_none r.binding) PipelineOutputRegularFunction ∷ []

-- the conditions of what a function declares: its local variables, its arguments and its result
abbrev pub declaration_checks : InterfaceSurroundings → KnownExpressions → Boolean → Function
    → List (Option FunctionDeclarationError)
declaration_checks s known is_entry_point f =
    local_variables_error s known f.local_variables ∷
    arguments_error s is_entry_point f.arguments ∷
    first (result_checks s is_entry_point f.result) ∷ []

-- what a function declares keeps its rules, or the first condition that is broken gives the error
abbrev pub declaration_rule : InterfaceSurroundings → KnownExpressions → Boolean → Function
    → Result (Unit {0}) FunctionDeclarationError
declaration_rule s known is_entry_point f = first_error_or (declaration_checks s known is_entry_point f) tt

-- whether a local variable has an initialiser
abbrev pub has_initialiser : LocalVariable → Boolean
has_initialiser v = is_some v.init

-- whether a local variable of a function has an initialiser: the kinds of the function's expressions are needed then
abbrev pub has_initialisers : Function → Boolean
has_initialisers f = list_any has_initialiser f.local_variables

-- what is known of the types and expressions of a function `f`, whose expressions have `types`, is enough to validate
-- what it declares: types exist, and so do the initialisers of its variables
pub record CanValidate (s : InterfaceSurroundings) (types : List TypeResolution) (f : Function) : Type 0 where
  pub known : AreTypesKnown s
  pub typed : All (TypesExist s.types) types
  pub as_many : length f.expressions ≡ length types
  pub local_variables : All (λ (v : LocalVariable). v.ty < length s.types) f.local_variables
  pub initialisers : All (λ (v : LocalVariable). IfSome v.init (λ e. e < length f.expressions)) f.local_variables
  pub arguments : All (λ (a : FunctionArgument). a.ty < length s.types) f.arguments
  pub result : IfSome f.result (λ (r : FunctionResult). r.ty < length s.types)
  pub back : ReferencesPrecede (OrderedOperands f.expressions)

-- a call returns `result`, which is what the rule says of what `f` declares, whose expressions have `types`, or that
-- memory was refused if a local variable has an initialiser
abbrev pub IsDeclarationResult : InterfaceSurroundings → List TypeResolution → Function
    → Result (Unit {0}) FunctionDeclarationError → Type 0
IsDeclarationResult s types f result =
    (kinds : List ExpressionKind) × AreKinds f.expressions kinds
    × IsResultOf (λ _. IsTrue (has_initialisers f)) OutOfMemory
    (declaration_rule s (record { types = types; kinds = kinds }) false f) result
