-- Validating the declarations of the functions of a module, and its entry points, one after another.
use Rattle.std.specs.Prelude.{◌≡◌, ◌⊎◌, ◌&&◌, ◌<◌, ℕ, Bool as Boolean, false, List, All, IfSome, IsTrue, Some, Result, Err, length, slice_get, take}
use Rattle.std.specs.List.{list_any}
use Rattle.std.specs.Option.{option_map_or}
use Rattle.std.specs.Str.{bytes_eq}
use Rattle.naga_interface.specs.Functions as declaration
use Rattle.naga_interface.specs.Stages.{is_covered}
use Rattle.naga_interface.specs.declared.error.EntryPointError.{EntryPointError}
use Rattle.naga_interface.specs.declared.error.EntryPointError.TheVariants as entry_point_error
use Rattle.naga_interface.specs.declared.error.FunctionDeclarationError.{FunctionDeclarationError}
use Rattle.naga_interface.specs.declared.error.FunctionDeclarationError.TheVariants as declaration_error
use Rattle.naga_info.specs.ModuleInfo.{ModuleInfoLists}
use Rattle.naga_ir.specs.declared.ir.EntryPoint.{EntryPoint}
use Rattle.naga_ir.specs.declared.ir.Module.{Module}
use Rattle.naga_ir.specs.declared.ir.ShaderStage.{ShaderStage}
use Rattle.naga_ir.specs.declared.ir.ShaderStage.TheVariants as stage
use Rattle.naga_valid.specs.Interfaces.{IsDeclarationOf, IsInterfaceOf, is_one_stage, takes_memory}
use Rattle.naga_valid.specs.State.{State}
use Rattle.naga_valid.specs.declared.interface.EntryPointNames.{EntryPointNames}

-- a call returns `result`, which is what the rule says of what the function of index `i` declares, or that memory was
-- refused if it takes any
abbrev pub IsDeclarationAnswer : {T : Type 0} → State T → Module → ModuleInfoLists → ℕ
    → Result (Unit {0}) FunctionDeclarationError → Type 0
IsDeclarationAnswer state m lists i result =
    IsDeclarationOf state m lists i result
    ⊎ ((result ≡ Err declaration_error.OutOfMemory)
    × IfSome (slice_get m.functions i) (λ f. IsTrue (declaration.has_initialisers f)))

-- a call returns `result`, which is what the rules say of the entry point of index `i`, or that memory was refused if it
-- takes any
abbrev pub IsInterfaceAnswer : {T : Type 0} → State T → Module → ModuleInfoLists → ℕ
    → Result (Unit {0}) EntryPointError → Type 0
IsInterfaceAnswer state m lists i result =
    IsInterfaceOf state m lists i result
    ⊎ ((result ≡ Err entry_point_error.OutOfMemory)
    × IfSome (slice_get m.entry_points i) (λ e. IsTrue (takes_memory state m e)))

-- the stage of the entry point is covered
abbrev pub has_covered_stage : EntryPoint → Boolean
has_covered_stage e = option_map_or is_covered e.stage false

-- the entry point `e` is of this stage, and has this name
abbrev pub is_named : ShaderStage → List ℕ → EntryPoint → Boolean
is_named stage name e = is_one_stage (Some stage) e.stage && bytes_eq name e.name

-- a set has the names of the entry points of this stage among these, and no other
abbrev pub AreNamesIn : ShaderStage → List EntryPoint → (List ℕ → Boolean) → Type 0
AreNamesIn stage before has = (name : List ℕ) → has name ≡ list_any (is_named stage name) before

-- `names` are the names of these entry points, by their stages
pub record AreNamesOf (before : List EntryPoint) (names : EntryPointNames) : Type 0 where
  pub vertex : AreNamesIn stage.Vertex before (λ name. list_any (λ own. bytes_eq name own.now) names.vertex.keys)
  pub fragment : AreNamesIn stage.Fragment before (λ name. list_any (λ own. bytes_eq name own.now) names.fragment.keys)
  pub compute : AreNamesIn stage.Compute before (λ name. list_any (λ own. bytes_eq name own.now) names.compute.keys)

-- `names` are those of the first `count` entry points of the module, if there are several, and all these are of stages
-- that are covered
pub record AreNoted (m : Module) (count : ℕ) (names : EntryPointNames) : Type 0 where
  pub covered : All (λ (e : EntryPoint). IsTrue (has_covered_stage e)) (take count m.entry_points)
  pub noted : 1 < length m.entry_points → AreNamesOf (take count m.entry_points) names
