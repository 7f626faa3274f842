-- Which items are right, types and global expressions aside.
use Rattle.std.specs.Prelude.{◌≡◌, ◌⊎◌, ℕ, ◌<◌, Some, All, Contains, length, slice_get}
use Rattle.std.specs.List.{flat_map}
use Rattle.naga_ir.specs.Handles.{Exists, MemberExists, OrderedOperands, function_counts, module_counts, place_of}
use Rattle.naga_ir.specs.ItemReferences.{all_functions, constant_references, filter_references, function_references, other_references, override_references}
use Rattle.naga_ir.specs.declared.ir.DiagnosticFilterNode.{DiagnosticFilterNode}
use Rattle.naga_ir.specs.declared.ir.Function.{Function}
use Rattle.naga_ir.specs.declared.ir.Module.{Module}
use Rattle.naga_ir.specs.declared.reference.Reference.{Reference}
use Rattle.naga_ir.specs.declared.reference.Reference.TheVariants as to
use Rattle.naga_handles.specs.Faults.{IsFault, NeedsMemory}
use Rattle.naga_handles.specs.declared.error.ValidationFault.{ValidationFault}
use Rattle.naga_handles.specs.declared.error.ValidationFault.TheVariants.{OutOfMemory}

-- what all items but types and global expressions refer to exists, and precedes them if it has to;
-- all that comments document exists
pub record OtherItemsOk (m : Module) : Type 0 where
  pub constants : All (Exists (module_counts m)) (flat_map constant_references m.constants)
  pub overrides : All (Exists (module_counts m)) (flat_map override_references m.overrides)
  pub filters : All (Exists (module_counts m)) (filter_references m)
  pub others : All (Exists (module_counts m)) (other_references m)
  pub in_functions : All (λ f. All (Exists (function_counts m f)) (function_references f)) (all_functions m)
  pub documented_members : All (λ c. MemberExists m.types c.0) m.doc_comments.struct_members
  pub documented_entry_points : All (λ c. c.0 < length m.entry_points) m.doc_comments.entry_points
  pub operands_back : (f : Function) (s t : Reference) → Contains (all_functions m) f
      → OrderedOperands f.expressions s t → place_of t < place_of s
  pub calls_back : (i j : ℕ) (f : Function) → slice_get m.functions i ≡ Some f
      → Contains (function_references f) (to.Function j) → j < i
  pub filters_back : (i j : ℕ) (n : DiagnosticFilterNode) → slice_get m.diagnostic_filters i ≡ Some n
      → n.parent ≡ Some j → j < i

-- why a module is refused: for a fault, or because memory was refused that may be requested
abbrev pub IsHandleRefusal : Module → ValidationFault → Type 0
IsHandleRefusal m fault = IsFault m fault ⊎ ((fault ≡ OutOfMemory) × NeedsMemory m)
