-- The types of the items of a module exist if its handles are right.
use Rattle.std.proofs.Common.{◌≡◌, ◌<◌, ℕ, List, Some, All, length, map, slice_get, option_to_list, refl, arith}
use Rattle.std.specs.List.{flat_map}
use Rattle.std.proofs.lemmas.List.Elements.{All-contains, Contains-append_left}
use Rattle.naga_arena.proofs.Elements.{all-left, all-right, all-unmap, all_at}
use Rattle.naga_ir.proofs.ReferencesOfItems.{within_all}
use Rattle.naga_ir.specs.Handles.{Exists, HandlesAccepted, function_counts, module_counts}
use Rattle.naga_ir.specs.ItemReferences.{function_references, global_variable_references, other_references, signature_references, special_types}
use Rattle.naga_ir.specs.declared.ir.EntryPoint.{EntryPoint}
use Rattle.naga_ir.specs.declared.ir.Function.{Function}
use Rattle.naga_ir.specs.declared.ir.FunctionArgument.{FunctionArgument}
use Rattle.naga_ir.specs.declared.ir.FunctionResult.{FunctionResult}
use Rattle.naga_ir.specs.declared.ir.GlobalVariable.{GlobalVariable}
use Rattle.naga_ir.specs.declared.ir.Module.{Module}
use Rattle.naga_ir.specs.declared.reference.Reference.{Reference}
use Rattle.naga_ir.specs.declared.reference.Reference.TheVariants as to

module _ (m : Module) (handles : HandlesAccepted m) where
  abbrev In : Reference → Type 0
  In = Exists (module_counts m)

  abbrev IsType : ℕ → Type 0
  IsType t = t < length m.types

  abbrev of_variables : List Reference
  of_variables = flat_map global_variable_references m.global_variables

  -- the type of a variable
  pub variable_type_exists : (k : ℕ) (v : GlobalVariable) → slice_get m.global_variables k ≡ Some v → IsType v.ty
  variable_type_exists k v at =
      All-contains In (other_references m) (to.Type_ v.ty) handles.exist.others
      (Contains-append_left of_variables _ (to.Type_ v.ty) (within_all global_variable_references m.global_variables k v (to.Type_ v.ty) at (0, omega arith, refl)))

  special_types_exist : All IsType (special_types m.special_types)
  special_types_exist = all-unmap In to.Type_ (special_types m.special_types) (all-left In (map to.Type_ (special_types m.special_types)) _ (all-right In of_variables _ handles.exist.others))

  -- the type of an intersection of a ray
  pub ray_intersection_exists : All IsType (option_to_list m.special_types.ray_intersection)
  ray_intersection_exists =
      all-left IsType (option_to_list m.special_types.ray_intersection) _ (all-right IsType (option_to_list m.special_types.ray_desc) _ special_types_exist)

  -- the type of the corners of what a ray has hit
  pub ray_vertex_return_exists : All IsType (option_to_list m.special_types.ray_vertex_return)
  ray_vertex_return_exists =
      all-left IsType (option_to_list m.special_types.ray_vertex_return) m.special_types.others
      (all-right IsType (option_to_list m.special_types.ray_intersection) _ (all-right IsType (option_to_list m.special_types.ray_desc) _ special_types_exist))

  -- the type of the result of a function
  pub result_type_exists : (k : ℕ) (f : Function) → slice_get m.functions k ≡ Some f → All (λ (r : FunctionResult). IsType r.ty) (option_to_list f.result)
  result_type_exists k f at =
      let Referred : Function → Type 0 = λ f. All (Exists (function_counts m f)) (function_references f) in
      let within = Exists (function_counts m f) in
      let in_modules = all-left Referred m.functions (map (λ (p : EntryPoint). p.function) m.entry_points) handles.exist.in_functions in
      let all = all_at Referred m.functions k f in_modules at in
      all-unmap within (λ (r : FunctionResult). to.Type_ r.ty) (option_to_list f.result)
      (all-right within (map (λ (a : FunctionArgument). to.Type_ a.ty) f.arguments) _ (all-left within (signature_references f) _ all))
