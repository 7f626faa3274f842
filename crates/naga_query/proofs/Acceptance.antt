-- What is known of an accepted module.
use Rattle.std.proofs.Common.{◌≤◌, ◌∙◌, length, ap}
use Rattle.std.specs.Prelude.{Err, IfOk, List, Ok, Result}
use Rattle.naga_arena.specs.Memory.{UnlessOutOfMemory}
use Rattle.naga_info.specs.ModuleInfo.{ModuleInfoLists}
use Rattle.naga_ir.proofs.Handles.{global_references_ok}
use Rattle.naga_ir.specs.Handles.{HandlesAccepted}
use Rattle.naga_ir.specs.declared.ir.Module.{Module}
use Rattle.naga_query.specs.Accepted.{AreHandlesRight, IsAcceptedModule}
use Rattle.naga_types.specs.declared.info.TypeInfo.{TypeInfo}
use Rattle.naga_typing.specs.Typings.{Resolves}
use Rattle.naga_valid.specs.Accepted.{Accepts}
use Rattle.naga_valid.specs.Functions.{AreFunctionsReadyInOrder}
use Rattle.naga_valid.specs.State.{Settings}

-- a result that is as a rule says has what follows from the rule
pub if_ok : {T E : Type 0} (result : Result T E) (IsOutOfMemory : E → Type 0) (IsAccepted Follows : T → Type 0) (IsRefused : E → Type 0)
    → UnlessOutOfMemory IsOutOfMemory result IsAccepted IsRefused → ((x : T) → IsAccepted x → Follows x) → IfOk result Follows
if_ok (Ok x) oom accepted follows refused h gives = gives x h
if_ok (Err e) oom accepted follows refused h gives = tt

-- what follows if the handles of a module are right
pub right_handles : (m : Module) → HandlesAccepted m → AreHandlesRight m
right_handles m handles = record { handles = handles; references = global_references_ok m handles }

-- a module that is accepted, whose functions can be validated in order
pub accepted_module : (resolves : Resolves) (m : Module) (settings : Settings) (infos : List TypeInfo) (lists : ModuleInfoLists)
    → Accepts resolves m settings infos lists → length m.types ≤ length lists.type_flags → AreFunctionsReadyInOrder m → IsAcceptedModule m infos lists
accepted_module resolves m settings infos lists h flags in_order =
    let types = h.accepted.known.types.accepted in
    let handles = types.laid_out.handles in
    record {
      handles = handles;
      references = global_references_ok m handles;
      laid_out = types.laid_out.each_type.accepted;
      as_many = ap length h.infos_are ∙ types.each_type.as_many;
      flags = flags;
      in_order = in_order;
      functions = ap (λ (l : ModuleInfoLists). l.functions) h.lists_are;
      entry_points = ap (λ (l : ModuleInfoLists). l.entry_points) h.lists_are;
    }
