-- What follows for parts of a module whose handles are right.
use Rattle.std.proofs.Common.{List, All, Contains, get_or, length, map, arith, refl, ◌<◌}
use Rattle.std.specs.List.{flat_map}
use Rattle.std.proofs.lemmas.List.Elements.{All-contains}
use Rattle.std.proofs.lemmas.Option.{slice_get-get_or}
use Rattle.naga_arena.proofs.Elements.{all-left, all-right, all-unmap}
use Rattle.naga_ir.proofs.ReferencesOfItems.{within_all}
use Rattle.naga_ir.specs.Handles.{Exists, ExistsGlobally, FunctionReferencesOk, GlobalReferencesOk, HandlesAccepted, among_globals, function_counts, in_function, module_counts}
use Rattle.naga_ir.specs.ItemReferences.{all_functions, expression_references, function_references, global_lists, local_references, local_variable_references, signature_references}
use Rattle.naga_ir.specs.declared.ir.Function.{Function}
use Rattle.naga_ir.specs.declared.ir.FunctionArgument.{FunctionArgument}
use Rattle.naga_ir.specs.declared.ir.LocalVariable.{LocalVariable}
use Rattle.naga_ir.specs.declared.ir.Module.{Module}
use Rattle.naga_ir.specs.declared.reference.Reference.{Reference}
use Rattle.naga_ir.specs.declared.reference.Reference.TheVariants as to

-- what exists in a module exists among its global lists
exists_globally : (m : Module) (r : Reference) → Exists (module_counts m) r → ExistsGlobally (global_lists m) r
exists_globally m (to.Type_ t) h = h
exists_globally m (to.Constant c) h = h
exists_globally m (to.Override o) h = h
exists_globally m (to.GlobalVariable v) h = tt
exists_globally m (to.Expression e) h = h
exists_globally m (to.LocalVariable v) h = omega (arith, h)
exists_globally m (to.Function f) h = tt
exists_globally m (to.DiagnosticFilterNode d) h = tt
exists_globally m (to.Emit range) h = tt

-- if the handles of a module are right, the handles of its global lists are
pub global_references_ok : (m : Module) → HandlesAccepted m → GlobalReferencesOk (global_lists m)
global_references_ok m h = record {
  exist = λ k d within. exists_globally m _ (h.exist.globals k d within);
  back = λ s t pair. h.back s t (among_globals s t pair);
}

-- the types of variables exist if all that these refer to exists
variable_types : (m : Module) (f : Function) → All (Exists (function_counts m f)) (flat_map local_variable_references f.local_variables) → All (λ (v : LocalVariable). v.ty < length m.types) f.local_variables
variable_types m f all k d within =
    let v = get_or f.local_variables k d in
    All-contains (Exists (function_counts m f)) (flat_map local_variable_references f.local_variables) (to.Type_ v.ty) all
    (within_all local_variable_references f.local_variables k v (to.Type_ v.ty) (slice_get-get_or f.local_variables k d within) (0, omega arith, refl))

-- if the handles of a module are right, so are the handles of each of its functions and entry points
pub function_references_ok : (m : Module) (f : Function) → Contains (all_functions m) f → HandlesAccepted m → FunctionReferencesOk m f
function_references_ok m f among h =
    let In = Exists (function_counts m f) in
    let arguments : List Reference = map (λ (a : FunctionArgument). to.Type_ a.ty) f.arguments in
    let all = All-contains (λ (f : Function). All (Exists (function_counts m f)) (function_references f)) (all_functions m) f h.exist.in_functions among in
    let after_signature = all-right In (signature_references f) _ all in
    record {
      in_expressions = record {
        arguments = all-unmap In (λ (a : FunctionArgument). to.Type_ a.ty) f.arguments (all-left In arguments _ (all-left In (signature_references f) _ all));
        expressions = all-left In (flat_map expression_references f.expressions) _ (all-right In (local_references f) _ after_signature);
        back = λ s t pair. h.back s t (in_function f s t among pair);
      };
      local_variables = variable_types m f (all-left In (flat_map local_variable_references f.local_variables) _ (all-left In (local_references f) _ after_signature));
    }
