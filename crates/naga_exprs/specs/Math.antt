-- The rule of mathematical functions.
use Rattle.std.specs.Prelude.{◌+◌, leb, ℕ, Bool as Boolean, List, [], ◌∷◌, Option, Result, length, map, take}
use Rattle.std.specs.List.{enumerate_from, list_any}
use Rattle.naga_flags.specs.Bits.{SHADER_FLOAT16_IN_FLOAT32}
use Rattle.naga_flags.specs.Flags.{has}
use Rattle.naga_flags.specs.declared.flags.ShaderStages.{ShaderStages}
use Rattle.naga_ir.specs.contracts.expression.MathFunctionPartialEq.TheImpl as of_function
use Rattle.naga_ir.specs.declared.expression.MathFunction.{MathFunction}
use Rattle.naga_ir.specs.declared.expression.MathFunction.TheVariants.{QuantizeToF16, Pack2x16float, Unpack2x16float}
use Rattle.naga_ir.specs.declared.types.TypeInner.{TypeInner}
use Rattle.naga_info.specs.Stages.{every_stage}
use Rattle.naga_info.specs.Surroundings.{ExpressionSurroundings, form_at}
use Rattle.naga_info.specs.declared.expression_error.ExpressionError.{ExpressionError}
use Rattle.naga_info.specs.declared.expression_error.ExpressionError.TheVariants as refusal
use Rattle.naga_types.specs.Checks.{first, first_error_or, when, require}
use Rattle.naga_typing.specs.Math.{arguments, has_no_gap}

-- what a typing says of mathematical functions: whether one takes arguments that begin with some types; and if they do,
-- how many arguments it takes at least
pub record MathTyping : Type 0 where
  pub accepts : MathFunction → List TypeInner → Boolean
  pub least_arguments : MathFunction → List TypeInner → ℕ

-- what a typing says of a math function by the arguments that it accepts and the least number of them
abbrev pub math_typing : (MathFunction → List TypeInner → Boolean) → (MathFunction → List TypeInner → ℕ) → MathTyping
math_typing accepts least_arguments = record { accepts = accepts; least_arguments = least_arguments }

-- the functions that keep floating-point numbers of 16 bits in ones of 32
unfoldable pub keeps_float16 : MathFunction → Boolean
keeps_float16 fun = list_any (of_function.ghosts.eq fun) (QuantizeToF16 ∷ Pack2x16float ∷ Unpack2x16float ∷ [])

-- the error of a function that needs a capability, if it is missing
abbrev pub float16_error : ℕ → MathFunction → Option ExpressionError
float16_error capabilities fun =
    when (keeps_float16 fun)
    (require (has capabilities SHADER_FLOAT16_IN_FLOAT32)
    (refusal.MissingCapabilities (record { 0 = SHADER_FLOAT16_IN_FLOAT32 })))

-- the error of an argument, given as its index and its operand, unless the function takes the types up to its own
abbrev pub argument_error : MathTyping → MathFunction → List TypeInner → ℕ × ℕ → Option ExpressionError
argument_error typing fun types argument =
    require (typing.accepts fun (take (argument.0 + 1) types)) (refusal.InvalidArgumentType fun argument.0 argument.1)

-- the error of the first argument that is refused
abbrev pub first_argument_error : MathTyping → MathFunction → List TypeInner → List ℕ → Option ExpressionError
first_argument_error typing fun types given = first (map (argument_error typing fun types) (enumerate_from 0 given))

-- the conditions of arguments of these types: the function takes each, and they are enough
abbrev pub argument_checks : MathTyping → MathFunction → List TypeInner → List ℕ → List (Option ExpressionError)
argument_checks typing fun types given =
    first_argument_error typing fun types given ∷
    require (leb (typing.least_arguments fun types) (length types)) (refusal.WrongArgumentCount fun) ∷ []

-- the checks of a function: its capability, that no argument is left out before another, and the arguments
abbrev pub math_checks : MathTyping → ExpressionSurroundings → MathFunction → ℕ → Option ℕ → Option ℕ → Option ℕ
    → List (Option ExpressionError)
math_checks typing s fun arg arg1 arg2 arg3 =
    float16_error s.capabilities fun ∷
    require (has_no_gap arg1 arg2 arg3) (refusal.WrongArgumentCount fun) ∷
    argument_checks typing fun (map (form_at s) (arguments arg arg1 arg2 arg3)) (arguments arg arg1 arg2 arg3)

-- the rule of a function
abbrev pub math_rule : MathTyping → ExpressionSurroundings → MathFunction → ℕ → Option ℕ → Option ℕ → Option ℕ
    → Result ShaderStages ExpressionError
math_rule typing s fun arg arg1 arg2 arg3 = first_error_or (math_checks typing s fun arg arg1 arg2 arg3) every_stage
