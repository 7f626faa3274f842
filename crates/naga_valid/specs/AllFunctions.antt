-- What is known of a module once its functions and entry points are validated in order.
use Rattle.std.specs.Prelude.{◌≡◌, ◌⊎◌, ◌<◌, ℕ, List, [], MatchResult, Option, Some, Result, length, option_map, slice_get, take}
use Rattle.naga_info.specs.ModuleInfo.{ModuleInfoLists}
use Rattle.naga_info.specs.declared.module_info.FunctionInfo.{FunctionInfo}
use Rattle.naga_ir.specs.declared.ir.EntryPoint.{EntryPoint}
use Rattle.naga_ir.specs.declared.ir.Function.{Function}
use Rattle.naga_ir.specs.declared.ir.Module.{Module}
use Rattle.naga_valid.specs.Functions.{FunctionSurroundings, IsFunctionAccepted, RefusesFunction}
use Rattle.naga_valid.specs.declared.function.Callable.{Callable}
use Rattle.naga_valid.specs.declared.function.Callable.TheVariants as callable
use Rattle.naga_valid.specs.declared.function.FunctionError.TheVariants.{OutOfMemory}
use Rattle.naga_valid.specs.declared.function.FunctionsError.{FunctionsError}

-- how each function of a module is validated, by what is known of the module then
abbrev pub Validation : Type 0
Validation = Function → ModuleInfoLists → FunctionSurroundings

-- the module `m` has this function or entry point
abbrev pub IsThere : Module → Callable → Type 0
IsThere m (callable.Function i) = i < length m.functions
IsThere m (callable.EntryPoint i) = i < length m.entry_points

-- the function of this index, or the function of the entry point
abbrev pub function_of : Module → Callable → Option Function
function_of m (callable.Function i) = slice_get m.functions i
function_of m (callable.EntryPoint i) = option_map (λ (e : EntryPoint). e.function) (slice_get m.entry_points i)

-- a function or entry point `at` is accepted with this info, if `lists` is what is known before it
abbrev pub IsInfoOf : Validation → Module → ModuleInfoLists → Callable → FunctionInfo → Type 0
IsInfoOf by m lists at info = (f : Function) × (function_of m at ≡ Some f) × IsFunctionAccepted (by f lists) info

-- `P` holds of each value with its index, and with the values before it
abbrev pub EachInOrder : {V : Type 0} → (List V → ℕ → V → Type 0) → List V → Type 0
EachInOrder {V} P values = (k : ℕ) (v : V) → slice_get values k ≡ Some v → P (take k values) k v

-- each info in `lists` is the info of the function, or of the entry point, of its index, which is accepted by the infos
-- before it: of the functions before a function, and of all functions and the entry points before an entry point
pub record AreInfosInOrder (by : Validation) (m : Module) (lists : ModuleInfoLists) : Type 0 where
  pub functions :
      EachInOrder (λ before i info. IsInfoOf by m (record lists { functions = before; entry_points = [] })
      (callable.Function i) info) lists.functions
  pub entry_points :
      EachInOrder (λ before i info. IsInfoOf by m (record lists { entry_points = before }) (callable.EntryPoint i) info)
      lists.entry_points

-- each function and each entry point has an info in `lists`
pub record HaveInfos (m : Module) (lists : ModuleInfoLists) : Type 0 where
  pub functions : length lists.functions ≡ length m.functions
  pub entry_points : length lists.entry_points ≡ length m.entry_points

-- `at` is the first function or entry point that has no info in `lists`; the functions come first
abbrev pub IsNext : Module → ModuleInfoLists → Callable → Type 0
IsNext m lists (callable.Function i) =
    (i < length m.functions) × (length lists.functions ≡ i) × (lists.entry_points ≡ [])
IsNext m lists (callable.EntryPoint i) =
    (i < length m.entry_points) × (length lists.functions ≡ length m.functions) × (length lists.entry_points ≡ i)

-- the first function or entry point that has no info in `lists` is refused, or memory was
-- refused while it was validated
pub record IsNextRefused (by : Validation) (m : Module) (lists : ModuleInfoLists) (error : FunctionsError) : Type 0 where
  pub next : IsNext m lists error.at
  pub function : Function
  pub there : function_of m error.at ≡ Some function
  pub refused : (error.source ≡ OutOfMemory) ⊎ RefusesFunction (by function lists) error.source

-- a call that adds infos of functions of `m` to `old` leaves `new`, accepted as `by` says, and `result` is an
-- error if `Complete` can't hold
pub record AddsInfos (by : Validation) (m : Module) (Complete : ModuleInfoLists → Type 0) (old new : ModuleInfoLists) (result : Result (Unit {0}) FunctionsError) : Type 0 where
  pub others : new ≡ record old { functions = new.functions; entry_points = new.entry_points }
  pub in_order : AreInfosInOrder by m new
  pub returned : MatchResult result (λ _. Complete new) (IsNextRefused by m new)

-- a call that adds infos to `old` leaves `new`, with an info of each function and each entry point of
-- `m` unless `result` is an error
abbrev pub ValidatesFunctions : Validation → Module → ModuleInfoLists → ModuleInfoLists
    → Result (Unit {0}) FunctionsError → Type 0
ValidatesFunctions by m old new result = AddsInfos by m (HaveInfos m) old new result
