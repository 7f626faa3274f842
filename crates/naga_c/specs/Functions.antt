-- What a call on a module writes of its functions.
use Rattle.std.specs.Prelude.{◌≡◌, ◌+◌, ◌<◌, ◌≤◌, ℕ, List, [], ◌∷◌, ◌++◌, Ok, Err, bit_or, length, map}
use Rattle.naga_exprs.specs.Math.{math_typing}
use Rattle.naga_flags.specs.Bits.{CONSTANTS}
use Rattle.naga_flags.specs.declared.flags.ValidationFlags.{ValidationFlags}
use Rattle.naga_info.specs.ModuleInfo.{ModuleInfoLists}
use Rattle.naga_info.specs.declared.expression_error.ExpressionError.{ExpressionError}
use Rattle.naga_info.specs.declared.module_info.FunctionInfo.{FunctionInfo}
use Rattle.naga_ir.specs.declared.ir.Module.{Module}
use Rattle.naga_types.specs.declared.info.TypeInfo.{TypeInfo}
use Rattle.naga_typing.specs.FullTyping.{full_resolves}
use Rattle.naga_typing.specs.Math.{accepts, argument_count}
use Rattle.naga_valid.specs.Accepted.{Accepts}
use Rattle.naga_valid.specs.AllFunctions.{Validation, ValidatesFunctions}
use Rattle.naga_valid.specs.Functions.{function_surroundings}
use Rattle.naga_valid.specs.State.{Settings, new_state}
use Rattle.naga_valid.specs.declared.function.Callable.{Callable}
use Rattle.naga_valid.specs.declared.function.Callable.TheVariants as callable
use Rattle.naga_valid.specs.declared.function.FunctionError.TheVariants as function_error
use Rattle.naga_valid.specs.declared.function.FunctionsError.{FunctionsError}
use Rattle.naga_c.specs.declared.subject.Subject.{Subject}
use Rattle.naga_c.specs.Buffers.{BeginsWith}
use Rattle.naga_c.specs.Calls.{IsNotAccepted, LeavesBuffer}
use Rattle.naga_c.specs.Codes.{expression_error_cause, expression_error_code, expression_error_second_cause}
use Rattle.naga_c.specs.Values.{counted, expression_error_values}
use Rattle.naga_c.specs.Verdicts.{counts_of, no_outcome, settings_in}
use Rattle.naga_c.specs.declared.results.Outcome.{Outcome}
use Rattle.naga_c.specs.declared.status.Status.{Status}
use Rattle.naga_c.specs.declared.status.Status.TheVariants.{Done, Refused, OutOfMemory, Room}

-- the stages that may use each function of `lists`, and then each entry point
abbrev pub stages_of : ModuleInfoLists → List ℕ
stages_of lists = map (λ (i : FunctionInfo). i.available_stages.0) (lists.functions ++ lists.entry_points)

-- how many functions and entry points a module has together
abbrev pub callable_count : Module → ℕ
callable_count m = length m.functions + length m.entry_points

-- what is written of the function or entry point of an index, of a stage and a kind, whose expression is refused
abbrev pub refused_expression : Module → ℕ → ℕ → ℕ → ℕ → ExpressionError → Outcome
refused_expression m stage kind index expression error =
    let values = counted (expression_error_values error) in
    record (counts_of m) {
      index = index;
      values = values.items;
      stage = stage;
      kind = kind;
      errors =
          expression_error_code error ∷ expression_error_cause error ∷ expression_error_second_cause error ∷ 0 ∷ [];
      value_count = values.count;
      expression = expression;
    }

-- what is written of a function or entry point whose expression is refused, without how many stages are written
abbrev pub refused_at : Module → Callable → ℕ → ExpressionError → Outcome
refused_at m (callable.Function i) expression error = refused_expression m 7 7 i expression error
refused_at m (callable.EntryPoint i) expression error = refused_expression m 8 9 i expression error

-- these flags, and the one by which constants are validated
abbrev pub with_constants : ValidationFlags → ValidationFlags
with_constants flags = record { 0 = bit_or flags.0 CONSTANTS }

-- the settings in force before functions are validated: constants are never left out
abbrev pub settings_for_functions : Subject → Settings
settings_for_functions subject = record (settings_in subject) { flags = with_constants subject.flags }

-- how the functions of a module are validated by the settings in force
abbrev pub validation_of : Subject → Validation
validation_of subject =
    function_surroundings full_resolves (math_typing accepts (λ fun types. argument_count fun))
    (new_state {T = Unit {0}} (with_constants subject.flags) subject.capabilities tt) subject.resolved
    subject.«module»

-- a call on a module `m` of which all functions and entry points are accepted, with the infos in `lists`, found the
-- buffer `old` and left `new`, an outcome and a status: the stages of all if the buffer has room for them; if it has no
-- element they are not wanted
pub data ReportsAll (m : Module) (lists : ModuleInfoLists) (old new : List ℕ) (outcome : Outcome) (status : Status) : Type 0 where
  all_unwanted : old ≡ [] → LeavesBuffer old new outcome (counts_of m) → status ≡ Done
      → ReportsAll m lists old new outcome status
  all_short : 0 < length old → length old < callable_count m → LeavesBuffer old new outcome (counts_of m)
      → status ≡ Room → ReportsAll m lists old new outcome status
  all_written : callable_count m ≤ length old → BeginsWith (stages_of lists) old new
      → outcome ≡ record (counts_of m) { written = callable_count m } → status ≡ Done
      → ReportsAll m lists old new outcome status

-- a call on a module `m` of which a function or entry point was refused with `error`, while `lists` has the infos of
-- those before it, found the buffer `old` and left `new`, an outcome and a status: the stages of those before it if the
-- buffer has room for all of the module
pub data ReportsRefused (m : Module) (lists : ModuleInfoLists) (error : FunctionsError) (old new : List ℕ) (outcome : Outcome) (status : Status) : Type 0 where
  before_short : (expression : ℕ) (e : ExpressionError) → error.source ≡ function_error.Expression expression e
      → length old < callable_count m
      → LeavesBuffer old new outcome (refused_at m error.at expression e) → status ≡ Refused
      → ReportsRefused m lists error old new outcome status
  before_written : (expression : ℕ) (e : ExpressionError) → error.source ≡ function_error.Expression expression e
      → callable_count m ≤ length old → BeginsWith (stages_of lists) old new
      → outcome ≡ record (refused_at m error.at expression e) {
        written = length lists.functions + length lists.entry_points;
      }
      → status ≡ Refused
      → ReportsRefused m lists error old new outcome status
  before_undecided : error.source ≡ function_error.OutOfMemory → LeavesBuffer old new outcome no_outcome
      → status ≡ OutOfMemory → ReportsRefused m lists error old new outcome status

-- a call on a module, of which `known` is known before functions are validated, found the buffer `old` and left
-- `new`, an outcome and a status: the stages of the functions and entry points, or the first that is refused
pub data ReportsFunctions (subject : Subject) (known : ModuleInfoLists) (old new : List ℕ) (outcome : Outcome) (status : Status) : Type 0 where
  all : (lists : ModuleInfoLists) → ValidatesFunctions (validation_of subject) subject.«module» known lists (Ok tt)
      → ReportsAll subject.«module» lists old new outcome status → ReportsFunctions subject known old new outcome status
  one_refused : (lists : ModuleInfoLists) (error : FunctionsError)
      → ValidatesFunctions (validation_of subject) subject.«module» known lists (Err error)
      → ReportsRefused subject.«module» lists error old new outcome status
      → ReportsFunctions subject known old new outcome status

-- a call on a module found the buffer `old` and left `new`, an outcome and a status: what it found of the
-- functions of the module if it is accepted, else its refusal
pub data ChecksFunctions (subject : Subject) (old new : List ℕ) (outcome : Outcome) (status : Status) : Type 0 where
  accepted : (infos : List TypeInfo) (known : ModuleInfoLists)
      → Accepts full_resolves subject.«module» (settings_for_functions subject) infos known
      → ReportsFunctions subject known old new outcome status → ChecksFunctions subject old new outcome status
  not_accepted : IsNotAccepted subject.«module» (settings_for_functions subject) (LeavesBuffer old new outcome) status
      → ChecksFunctions subject old new outcome status
