-- The functions of accepted modules can be validated in order.
use Rattle.std.proofs.Common.{◌≡◌, ◌≤◌, ◌∙◌, ℕ, All, Contains, List, Some, length, slice_get, refl, ap, arith}
use Rattle.std.specs.List.{flat_map}
use Rattle.std.proofs.lemmas.List.{length-map}
use Rattle.std.proofs.lemmas.List.Elements.{All-contains, Contains-append_left, Contains-append_right}
use Rattle.naga_arena.proofs.Elements.{contains-map}
use Rattle.naga_flags.specs.declared.flags.TypeFlags.{TypeFlags}
use Rattle.naga_ir.proofs.Handles.{function_references_ok}
use Rattle.naga_ir.proofs.ReferencesOfItems.{item_in, within_all}
use Rattle.naga_ir.specs.Handles.{Exists, HandlesAccepted, calls_function, function_counts}
use Rattle.naga_ir.specs.ItemReferences.{all_functions, expression_references, function_references, local_references, signature_references}
use Rattle.naga_ir.specs.References.{named_item}
use Rattle.naga_ir.specs.declared.expression.Expression.{Expression}
use Rattle.naga_ir.specs.declared.expression.Expression.TheVariants as form
use Rattle.naga_ir.specs.declared.ir.EntryPoint.{EntryPoint}
use Rattle.naga_ir.specs.declared.ir.Function.{Function}
use Rattle.naga_ir.specs.declared.ir.Module.{Module}
use Rattle.naga_ir.specs.declared.reference.Reference.TheVariants as to
use Rattle.naga_types.proofs.LayoutParts.{contains-place}
use Rattle.naga_types.specs.declared.info.TypeInfo.{TypeInfo}
use Rattle.naga_typing.specs.Typings.{Resolves}
use Rattle.naga_info.specs.ModuleInfo.{ModuleInfoLists}
use Rattle.naga_valid.specs.Accepted.{Accepts}
use Rattle.naga_valid.specs.Functions.{IsFunctionReady, AreFunctionsReadyInOrder}
use Rattle.naga_valid.specs.State.{Settings}

call_named : (called : ℕ) → named_item (form.CallResult called) ≡ Some (to.Function called)
unfolding named_item
call_named called = refl

-- a function refers to each function whose result is among its expressions
calls_referred : (f : Function) (e called : ℕ) → slice_get f.expressions e ≡ Some (form.CallResult called) → Contains (function_references f) (to.Function called)
calls_referred f e called at =
    let x : Expression = form.CallResult called in
    let own = within_all expression_references f.expressions e x (to.Function called) at (item_in x (to.Function called) (call_named called)) in
    Contains-append_right (signature_references f) _ (to.Function called)
    (Contains-append_right (local_references f) _ (to.Function called) (Contains-append_left (flat_map expression_references f.expressions) _ (to.Function called) own))

module _ (m : Module) (h : HandlesAccepted m) where
  function_at : (i : ℕ) (f : Function) → slice_get m.functions i ≡ Some f → IsFunctionReady m f i
  function_at i f at = record {
    references = function_references_ok m f (Contains-append_left m.functions _ f (contains-place m.functions i f at)) h;
    calls = λ e called there. h.back (to.Function i) (to.Function called) (calls_function i called f at (calls_referred f e called there));
  }

  entry_point_at : (i : ℕ) (p : EntryPoint) → slice_get m.entry_points i ≡ Some p → IsFunctionReady m p.function (length m.functions)
  entry_point_at i p at =
      let f = p.function in
      let among : Contains (all_functions m) f = Contains-append_right m.functions _ f (contains-map (λ (p : EntryPoint). p.function) m.entry_points p (contains-place m.entry_points i p at)) in
      let all = All-contains (λ (f : Function). All (Exists (function_counts m f)) (function_references f)) (all_functions m) f h.exist.in_functions among in
      record {
        references = function_references_ok m f among h;
        calls = λ e called there. All-contains (Exists (function_counts m f)) (function_references f) (to.Function called) all (calls_referred f e called there);
      }

  -- the functions of a module whose handles are right can be validated in order
  pub ready_in_order : AreFunctionsReadyInOrder m
  ready_in_order = record { functions = function_at; entry_points = entry_point_at }

-- it is known what each type of an accepted module may be used for
pub flags_known : (resolves : Resolves) (m : Module) (settings : Settings) (infos : List TypeInfo) (lists : ModuleInfoLists) → Accepts resolves m settings infos lists → length m.types ≤ length lists.type_flags
flags_known resolves m settings infos lists h =
    let flags : TypeInfo → TypeFlags = λ (i : TypeInfo). i.flags in
    let listed : length lists.type_flags ≡ length h.facts.infos = ap (λ (l : ModuleInfoLists). length l.type_flags) h.lists_are ∙ length-map h.facts.infos flags in
    omega (arith, listed, h.accepted.known.types.accepted.each_type.as_many)
