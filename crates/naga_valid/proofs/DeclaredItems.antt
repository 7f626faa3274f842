-- What is known of variables, functions and entry points of an accepted module is enough to validate what they declare.
use Rattle.std.proofs.Common.{◌≡◌, ◌∙◌, ◌<◌, ◌∷◌, [], ℕ, List, Option, Some, None, All, Contains, IfSome, get_or, length, map, option_to_list, slice_get, refl, sym, subst, ap, arith}
use Rattle.std.specs.List.{flat_map}
use Rattle.std.proofs.lemmas.List.Elements.{All-contains, Contains-append_left, Contains-append_right}
use Rattle.std.proofs.lemmas.Option.{slice_get-get_or}
use Rattle.naga_arena.proofs.Elements.{contains-map}
use Rattle.naga_info.specs.FunctionTypes.{AreFunctionTypes}
use Rattle.naga_interface.specs.Functions.{CanValidate}
use Rattle.naga_interface.specs.Surroundings.{AreTypesKnown}
use Rattle.naga_ir.proofs.Handles.{function_references_ok, global_references_ok}
use Rattle.naga_ir.proofs.ReferencesOfItems.{only, within_all}
use Rattle.naga_ir.specs.Handles.{Exists, HandlesAccepted, function_counts, module_counts}
use Rattle.naga_ir.specs.ItemReferences.{all_functions, function_references, global_lists, global_variable_references, local_references, local_variable_references, other_references, signature_references}
use Rattle.naga_ir.specs.declared.ir.EntryPoint.{EntryPoint}
use Rattle.naga_ir.specs.declared.ir.Function.{Function}
use Rattle.naga_ir.specs.declared.ir.FunctionArgument.{FunctionArgument}
use Rattle.naga_ir.specs.declared.ir.FunctionResult.{FunctionResult}
use Rattle.naga_ir.specs.declared.ir.GlobalVariable.{GlobalVariable}
use Rattle.naga_ir.specs.declared.ir.LocalVariable.{LocalVariable}
use Rattle.naga_ir.specs.declared.ir.Module.{Module}
use Rattle.naga_ir.specs.declared.reference.Reference.{Reference}
use Rattle.naga_ir.specs.declared.reference.Reference.TheVariants as to
use Rattle.naga_info.specs.ModuleInfo.{ModuleInfoLists}
use Rattle.naga_typing.specs.PlainLaws.{all_parts_exist}
use Rattle.naga_typing.specs.Resolutions.{TypesExist}
use Rattle.naga_typing.specs.Typings.{IsLawful, Resolves}
use Rattle.naga_typing.specs.declared.typifier.TypeResolution.{TypeResolution}
use Rattle.naga_types.proofs.LayoutParts.{contains-place}
use Rattle.naga_valid.proofs.KnownTypes.{function_types_exist, module_types_exist}
use Rattle.naga_valid.specs.Interfaces.{IsKnown, surroundings_of}
use Rattle.naga_valid.specs.State.{State}

-- an initialiser is among what an item refers to
initialiser_in : (t : ℕ) (init : Option ℕ) (e : ℕ) → init ≡ Some e → Contains (to.Type_ t ∷ map to.Expression (option_to_list init)) (to.Expression e)
initialiser_in t init e is =
    Contains-append_right (to.Type_ t ∷ []) (map to.Expression (option_to_list init)) (to.Expression e)
    (subst (λ (o : Option ℕ). Contains (map to.Expression (option_to_list o)) (to.Expression e)) (sym is) (only (to.Expression e)))

-- what is below a number if it stands
below : (o : Option ℕ) (n : ℕ) → ((e : ℕ) → o ≡ Some e → e < n) → IfSome o (λ e. e < n)
below None n each = tt
below (Some e) n each = each e refl

module _ (m : Module) (handles : HandlesAccepted m) where
  -- the initialiser of a variable exists
  pub initialiser_exists : (k : ℕ) (v : GlobalVariable) → slice_get m.global_variables k ≡ Some v → IfSome v.init (λ e. e < length m.global_expressions)
  initialiser_exists k v at = below v.init (length m.global_expressions) (λ e is.
      All-contains (Exists (module_counts m)) (other_references m) (to.Expression e) handles.exist.others
      (Contains-append_left (flat_map global_variable_references m.global_variables) _ (to.Expression e)
      (within_all global_variable_references m.global_variables k v (to.Expression e) at (initialiser_in v.ty v.init e is))))

  module _ (f : Function) (among : Contains (all_functions m) f) where
    referred : (r : Reference) → Contains (function_references f) r → Exists (function_counts m f) r
    referred r names =
        All-contains (Exists (function_counts m f)) (function_references f) r
        (All-contains (λ (f : Function). All (Exists (function_counts m f)) (function_references f)) (all_functions m) f handles.exist.in_functions among) names

    local_initialisers : All (λ (v : LocalVariable). IfSome v.init (λ e. e < length f.expressions)) f.local_variables
    local_initialisers k d within =
        let v = get_or f.local_variables k d in
        below v.init (length f.expressions) (λ e is.
        referred (to.Expression e)
        (Contains-append_right (signature_references f) _ (to.Expression e)
        (Contains-append_left (local_references f) _ (to.Expression e)
        (Contains-append_left (flat_map local_variable_references f.local_variables) _ (to.Expression e)
        (within_all local_variable_references f.local_variables k v (to.Expression e) (slice_get-get_or f.local_variables k d within) (initialiser_in v.ty v.init e is))))))

    result_exists : IfSome f.result (λ (r : FunctionResult). r.ty < length m.types)
    result_exists = by_result f.result refl
      where
        by_result : (o : Option FunctionResult) → f.result ≡ o → IfSome o (λ (r : FunctionResult). r.ty < length m.types)
        by_result None is = tt
        by_result (Some r) is =
            referred (to.Type_ r.ty)
            (Contains-append_left (signature_references f) _ (to.Type_ r.ty)
            (Contains-append_right (map (λ (a : FunctionArgument). to.Type_ a.ty) f.arguments) _ (to.Type_ r.ty)
            (subst (λ (o : Option FunctionResult). Contains (map (λ (r : FunctionResult). to.Type_ r.ty) (option_to_list o)) (to.Type_ r.ty)) (sym is) (only (to.Type_ r.ty)))))

    -- what a function or entry point declares can be validated
    pub can_validate : {T : Type 0} (state : State T) (types : List TypeResolution) → AreTypesKnown (surroundings_of state m) → All (TypesExist m.types) types → length types ≡ length f.expressions
        → CanValidate (surroundings_of state m) types f
    can_validate state types known typed as_many =
        let ok = function_references_ok m f among handles in
        record {
          known = known;
          typed = typed;
          as_many = sym as_many;
          local_variables = ok.local_variables;
          initialisers = local_initialisers;
          arguments = ok.in_expressions.arguments;
          result = result_exists;
          back = ok.in_expressions.back;
        }

module _ {T : Type 0} (resolves : Resolves) (state : State T) (m : Module) (lists : ModuleInfoLists) (known : IsKnown resolves state m lists) where
  -- the handles of a module that is known are right
  pub known_handles : HandlesAccepted m
  known_handles = known.accepted.accepted.known.types.accepted.laid_out.handles

  -- its types have infos
  pub types_known : AreTypesKnown (surroundings_of state m)
  types_known = record {
    parts = all_parts_exist (global_lists m) (global_references_ok m known_handles);
    infos = omega (arith, ap length known.accepted.infos_are, known.accepted.accepted.known.types.accepted.each_type.as_many);
  }

  expressions_are : lists.const_expression_types ≡ known.accepted.facts.resolutions
  expressions_are = ap (λ (l : ModuleInfoLists). l.const_expression_types) known.others ∙ ap (λ (l : ModuleInfoLists). l.const_expression_types) known.accepted.lists_are

  -- the types of its global expressions exist
  pub expressions_typed : IsLawful resolves → All (TypesExist m.types) lists.const_expression_types
  expressions_typed laws =
      subst (All (TypesExist m.types)) (sym expressions_are)
      (module_types_exist resolves laws m known_handles known.accepted.facts.resolutions known.accepted.accepted.known.resolutions)

  -- each global expression has a type
  pub as_many_types : length lists.const_expression_types ≡ length m.global_expressions
  as_many_types = ap length expressions_are ∙ known.accepted.accepted.known.resolutions.as_many

module _ (m : Module) where
  -- a function of the module is among its functions
  pub function_among : (i : ℕ) (f : Function) → slice_get m.functions i ≡ Some f → Contains (all_functions m) f
  function_among i f at = Contains-append_left m.functions _ f (contains-place m.functions i f at)

  -- and so is that of an entry point
  pub entry_point_among : (i : ℕ) (e : EntryPoint) → slice_get m.entry_points i ≡ Some e → Contains (all_functions m) e.function
  entry_point_among i e at = Contains-append_right m.functions _ e.function (contains-map (λ (e : EntryPoint). e.function) m.entry_points e (contains-place m.entry_points i e at))

module _ {T : Type 0} (resolves : Resolves) (laws : IsLawful resolves) (state : State T) (m : Module) (lists : ModuleInfoLists) (known : IsKnown resolves state m lists) where
  -- what a function or entry point declares can be validated by the types of its expressions
  pub declarations_known : (f : Function) → Contains (all_functions m) f → (types : List TypeResolution) → AreFunctionTypes resolves m f types → CanValidate (surroundings_of state m) types f
  declarations_known f among types are =
      let handles = known_handles resolves state m lists known in
      can_validate m handles f among state types (types_known resolves state m lists known)
      (function_types_exist resolves laws m handles f (function_references_ok m f among handles) types are) are.as_many
