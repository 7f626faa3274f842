-- Whether the handles of a whole module are right.
use Rattle.std.proofs.Common.{◌≡◌, ⊎_elim, inl, inr}
use Rattle.std.specs.Prelude.{Result, Ok, Err, OnOk, IfErr}
use Rattle.std.specs.List.{flat_map}
use Rattle.naga_arena.specs.Memory.{UnlessOutOfMemory}
use Rattle.naga_ir.specs.Handles.{Exists, HandlesAccepted, module_counts}
use Rattle.naga_ir.specs.ItemReferences.{expression_references, type_references}
use Rattle.naga_ir.specs.declared.ir.Module.{Module}
use Rattle.naga_ir.specs.declared.types.«Type».{«Type»}
use Rattle.naga_handles.specs.Faults.{IsFault, NeedsMemory}
use Rattle.naga_handles.specs.Order.{CanBeOrdered}
use Rattle.naga_handles.specs.steps.OtherItems.{IsHandleRefusal, OtherItemsOk}
use Rattle.naga_handles.specs.declared.error.ValidationFault.{ValidationFault}
use Rattle.naga_handles.specs.declared.error.ValidationFault.TheVariants.{OutOfMemory}
use Rattle.naga_handles.proofs.AcceptedHandles.{all_accepted, fault_breaks}
use Rattle.naga_arena.proofs.Elements.{all-left, all-right}

-- if types and global expressions can be ordered and all else is right, the handles of a module are right
pub all_right : (m : Module) → CanBeOrdered m → (result : Result (Unit {0}) ValidationFault) → OnOk result (OtherItemsOk m) → OnOk result (HandlesAccepted m)
all_right m can (Ok _) others =
    let there = Exists (module_counts m) in
    let of_types = flat_map (λ (t : «Type»). type_references t.inner) m.types in
    let of_expressions = flat_map expression_references m.global_expressions in
    all_accepted m (all-left there of_types of_expressions can.exist) (all-right there of_types of_expressions can.exist) can.back can.sizes others
all_right m can (Err fault) others = tt

-- a result that is right in both cases decides whether they are right
pub decides : (m : Module) (result : Result (Unit {0}) ValidationFault) → OnOk result (HandlesAccepted m) → IfErr result (IsHandleRefusal m)
    → UnlessOutOfMemory (λ f. (f ≡ OutOfMemory) × NeedsMemory m) result (λ _. HandlesAccepted m) (λ f. IsFault m f × (HandlesAccepted m → ⊥))
decides m (Ok _) accepted refused = accepted
decides m (Err f) accepted refused = ⊎_elim (λ (fault : IsFault m f). inr (fault, fault_breaks m f fault)) (λ (memory : (f ≡ OutOfMemory) × NeedsMemory m). inl memory) refused
