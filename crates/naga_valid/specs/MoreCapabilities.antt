-- When a validator allows what another does, and more.
use Rattle.std.specs.Prelude.{◌≡◌, ℕ, IsTrue, List, Some, length, slice_get}
use Rattle.naga_flags.specs.Flags.{has}
use Rattle.naga_info.specs.ModuleInfo.{ModuleInfoLists}
use Rattle.naga_info.specs.declared.module_info.FunctionInfo.{FunctionInfo}
use Rattle.naga_ir.specs.declared.ir.Function.{Function}
use Rattle.naga_ir.specs.declared.ir.Module.{Module}
use Rattle.naga_valid.specs.AllFunctions.{AreInfosInOrder, Validation}
use Rattle.naga_valid.specs.Functions.{IsFunctionAccepted}
use Rattle.naga_valid.specs.State.{State}

-- validator `more` has the flags and the typing of validator `less`, and each of its capabilities
pub record HasMoreCapabilities {T : Type 0} (less more : State T) : Type 0 where
  pub flags : more.flags ≡ less.flags
  pub typing : more.typing ≡ less.typing
  pub capabilities : IsTrue (has more.capabilities.0 less.capabilities.0)

-- by what `more` says of a function, its expressions have the same types, and no fewer stages may use it
pub record IsUsableByMore (less more : FunctionInfo) : Type 0 where
  pub types : more.types ≡ less.types
  pub stages : IsTrue (has more.available_stages.0 less.available_stages.0)

-- as many functions are known by `more` as by `less`, and no fewer stages may use each
pub record AreAllUsableByMore (less more : List FunctionInfo) : Type 0 where
  pub as_many : length more ≡ length less
  pub each : (k : ℕ) (a b : FunctionInfo) → slice_get less k ≡ Some a → slice_get more k ≡ Some b → IsUsableByMore a b

-- by `more` the same is known of a module as by `less`, except that no fewer stages may use its functions and entry
-- points
pub record KnowsMoreStages (less more : ModuleInfoLists) : Type 0 where
  pub functions : AreAllUsableByMore less.functions more.functions
  pub entry_points : AreAllUsableByMore less.entry_points more.entry_points
  pub others : more ≡ record less { functions = more.functions; entry_points = more.entry_points }

-- what is accepted of the functions of module `m` as `by` says is accepted as `by_more` says, and no fewer stages may
-- use it: each function, and all functions and entry points in order
pub record AcceptsFunctionsToo (by by_more : Validation) (m : Module) : Type 0 where
  pub one : (f : Function) (less more : ModuleInfoLists) → KnowsMoreStages less more → (info : FunctionInfo)
      → IsFunctionAccepted (by f less) info
      → (now : FunctionInfo) × IsFunctionAccepted (by_more f more) now × IsUsableByMore info now
  pub all : (lists : ModuleInfoLists) → AreInfosInOrder by m lists
      → (known : ModuleInfoLists) × AreInfosInOrder by_more m known × KnowsMoreStages lists known
