use Rattle.std.proofs.Common.{Result, Ok, Err, OnOk}
use Rattle.naga_ir.proofs.Handles.{global_references_ok}
use Rattle.naga_ir.specs.Handles.{GlobalReferencesOk, HandlesAccepted}
use Rattle.naga_ir.specs.ItemReferences.{global_lists}
use Rattle.naga_ir.specs.declared.ir.Module.{Module}
use Rattle.naga_handles.proofs.HandleVerdict.{decides}
use Rattle.naga_handles.specs.declared.error.ValidationFault.{ValidationFault}
use Rattle.naga_handles.proofs.handles.validate_module_handles.Goals as goal

-- if the handles of a module are right, the handles of its global lists are
on_ok : (m : Module) (result : Result (Unit {0}) ValidationFault) → OnOk result (HandlesAccepted m) → OnOk result (GlobalReferencesOk (global_lists m))
on_ok m (Ok _) h = global_references_ok m h
on_ok m (Err _) h = tt

pub returns : goal.returns
returns c =
    let m = c.args.«module».now in
    let result = c.validate_all_handles.result in
    record {
      result = decides m result c.validate_all_handles.ensures.accepted c.validate_all_handles.ensures.refused;
      references = on_ok m result c.validate_all_handles.ensures.accepted;
    }
