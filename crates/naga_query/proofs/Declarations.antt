-- A global variable that is refused is one of the module.
use Rattle.std.proofs.Common.{◌<◌, subst}
use Rattle.std.proofs.lemmas.List.{length-map}
use Rattle.std.proofs.lemmas.Option.{slice_get_within}
use Rattle.std.specs.Prelude.{Err}
use Rattle.naga_info.specs.ModuleInfo.{ModuleInfoLists}
use Rattle.naga_ir.specs.declared.ir.Module.{Module}
use Rattle.naga_query.specs.Accepted.{IsVariableThere}
use Rattle.naga_valid.specs.AllFunctions.{Validation}
use Rattle.naga_valid.specs.Interfaces.{IsDeclarationsResult, IsVariableRefusal, variable_results}
use Rattle.naga_valid.specs.State.{State}
use Rattle.naga_valid.specs.declared.interface.DeclarationsError.{DeclarationsError}
use Rattle.naga_valid.specs.declared.interface.DeclarationsError.TheVariants as declarations_error
use Rattle.naga_valid.specs.declared.interface.VariablesError.{VariablesError}
use Rattle.naga_valid.specs.declared.interface.VariablesError.TheVariants as variables_error

-- the variable that `validate_variables` names
pub refused_variable : {T : Type 0} (state : State T) (m : Module) (lists : ModuleInfoLists) (error : VariablesError)
    → IsVariableRefusal state m lists error → IsVariableThere m (declarations_error.Variable error)
refused_variable state m lists (variables_error.GlobalVariable handle source) (kinds, are_kinds, first) =
    subst (λ n. handle < n) (length-map m.global_variables _)
    (slice_get_within (variable_results state m lists kinds) handle (Err source) first.refused)
refused_variable state m lists variables_error.OutOfMemory h = tt

-- the variable that `validate_declarations` names, if it names one
pub refused_declaration : {T : Type 0} (by : Validation) (state : State T) (m : Module) (old new : ModuleInfoLists) (error : DeclarationsError)
    → IsDeclarationsResult by state m old new (Err error) → IsVariableThere m error
refused_declaration by state m old new (declarations_error.Variable error) (refused, same) =
    refused_variable state m old error refused
refused_declaration by state m old new (declarations_error.Function error) h = tt
refused_declaration by state m old new (declarations_error.Interface error) h = tt
