-- Validating the functions and entry points of a module one after another.
use Rattle.std.specs.Prelude.{◌≡◌, [], ◌∷◌, ◌++◌, length}
use Rattle.naga_info.specs.ModuleInfo.{ModuleInfoLists}
use Rattle.naga_info.specs.declared.module_info.FunctionInfo.{FunctionInfo}
use Rattle.naga_ir.specs.declared.ir.Module.{Module}
use Rattle.naga_valid.specs.AllFunctions.{IsInfoOf, Validation}
use Rattle.naga_valid.specs.declared.function.Callable.{Callable}
use Rattle.naga_valid.specs.declared.function.Callable.TheVariants as callable

-- `lists` with the info of a function or an entry point behind the infos of its kind
abbrev pub with_info : ModuleInfoLists → Callable → FunctionInfo → ModuleInfoLists
with_info lists (callable.Function i) info = record lists { functions = lists.functions ++ info ∷ [] }
with_info lists (callable.EntryPoint i) info = record lists { entry_points = lists.entry_points ++ info ∷ [] }

-- `at` is accepted, and its info is added to `old`
pub record IsInfoAdded (by : Validation) (m : Module) (at : Callable) (old new : ModuleInfoLists) : Type 0 where
  pub info : FunctionInfo
  pub accepted : IsInfoOf by m old at info
  pub added : new ≡ with_info old at info

-- each function has an info in `lists`, and no entry point has one
pub record HaveFunctionInfos (m : Module) (lists : ModuleInfoLists) : Type 0 where
  pub functions : length lists.functions ≡ length m.functions
  pub entry_points : lists.entry_points ≡ []
