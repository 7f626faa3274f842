-- Modules that are accepted, and what calls on them end with.
use Rattle.naga_info.specs.ModuleInfo.{ModuleInfoLists}
use Rattle.naga_ir.specs.Handles.{GlobalReferencesOk}
use Rattle.naga_ir.specs.ItemReferences.{global_lists}
use Rattle.naga_typing.specs.FullTyping.{full_resolves}
use Rattle.naga_valid.specs.Accepted.{Accepts}
use Rattle.naga_c.specs.Verdicts.{settings_in}
use Rattle.naga_c.specs.declared.accepted.AcceptedModule.{AcceptedModule}

-- the module of `m` is accepted by the settings in force: the validator has the infos of its types, and its references
-- are right
pub record IsAccepted (m : AcceptedModule) : Type 0 where
  pub lists : ModuleInfoLists
  pub accepted : Accepts full_resolves m.subject.«module» (settings_in m.subject) m.validator.infos lists
  pub references : GlobalReferencesOk (global_lists m.subject.«module»)
