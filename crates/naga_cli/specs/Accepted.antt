-- What is known of modules that are accepted.
use Rattle.std.specs.Prelude.{◌≡◌, List, length}
use Rattle.naga_ir.specs.Handles.{GlobalReferencesOk}
use Rattle.naga_ir.specs.ItemReferences.{global_lists}
use Rattle.naga_ir.specs.declared.ir.Module.{Module}
use Rattle.naga_types.specs.declared.info.TypeInfo.{TypeInfo}

-- the types of the module `m` have layouts, and these infos
pub record IsLaidOut (m : Module) (infos : List TypeInfo) : Type 0 where
  pub references : GlobalReferencesOk (global_lists m)
  pub as_many : length infos ≡ length m.types
