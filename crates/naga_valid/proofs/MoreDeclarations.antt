-- What is accepted of declarations under some capabilities is accepted under more.
use Rattle.std.proofs.Common.{◌≡◌, ◌∙◌, ℕ, Bool, true, false, not, List, [], ◌∷◌, ◌++◌, All, IsOk, Option, Some, None, Result, Ok, Err, ap, arith, map, refl, subst, sym, take}
use Rattle.std.specs.List.{enumerate_from, list_any}
use Rattle.std.specs.Option.{option_map, option_map_or}
use Rattle.std.proofs.lemmas.List.Elements.{All-map, All-weaker}
use Rattle.std.proofs.lemmas.Option.{slice_get_within}
use Rattle.naga_arena.proofs.Elements.{all-unmap}
use Rattle.naga_arena.proofs.InOrder.{found_at}
use Rattle.naga_flags.proofs.HasLemmas.{has-trans}
use Rattle.naga_flags.specs.Bits.{BUFFER_BINDING_ARRAY, DUAL_SOURCE_BLENDING, EARLY_DEPTH_TEST, IMMEDIATES, MEMORY_DECORATION_COHERENT, MEMORY_DECORATION_VOLATILE, MESH_SHADER, RAY_TRACING_PIPELINE, STORAGE_BUFFER_BINDING_ARRAY}
use Rattle.naga_flags.specs.Flags.{has}
use Rattle.naga_flags.specs.declared.flags.ValidationFlags.{ValidationFlags}
use Rattle.naga_info.specs.ModuleInfo.{ModuleInfoLists}
use Rattle.naga_interface.specs.EntryPoints.{covered_checks, early_depth_checks, entry_point_checks, input_error, inputs_error, output_error, argument_bindings}
use Rattle.naga_interface.specs.Functions.{declaration_rule}
use Rattle.naga_interface.specs.GlobalVariables as variable
use Rattle.naga_interface.specs.GlobalVariables.{array_error, bindings_of, bound_type, class_capability, decoration_checks, global_variable_checks, global_variable_rule, immediate_checks, resource_array_capability, resource_error, space_checks}
use Rattle.naga_interface.specs.Stages.{stage_flag}
use Rattle.naga_interface.specs.Surroundings.{InterfaceSurroundings, KnownExpressions, form_of}
use Rattle.naga_interface.specs.Varyings.{VaryingSurroundings, binding_checks, bound_error, built_in_checks, capability_error, interpolation_capability, member_bindings, member_error, place_checks, primitive_checks, sampling_capability, sampling_checks, source_checks, unbound_error, varying_error}
use Rattle.naga_interface.specs.declared.error.EntryPointError.{EntryPointError}
use Rattle.naga_interface.specs.declared.error.EntryPointError.TheVariants as entry_point_error
use Rattle.naga_interface.specs.declared.varying.Direction.TheVariants.{Input, Output}
use Rattle.naga_ir.specs.declared.ir.EarlyDepthTest.{EarlyDepthTest}
use Rattle.naga_ir.specs.declared.ir.EntryPoint.{EntryPoint}
use Rattle.naga_ir.specs.declared.ir.FunctionArgument.{FunctionArgument}
use Rattle.naga_ir.specs.declared.ir.FunctionResult.{FunctionResult}
use Rattle.naga_ir.specs.declared.ir.GlobalVariable.{GlobalVariable}
use Rattle.naga_ir.specs.declared.ir.MemoryDecorations.{MemoryDecorations}
use Rattle.naga_ir.specs.declared.ir.Module.{Module}
use Rattle.naga_ir.specs.declared.ir.ShaderStage.{ShaderStage}
use Rattle.naga_ir.specs.declared.types.AddressSpace.{AddressSpace}
use Rattle.naga_ir.specs.declared.types.AddressSpace.TheVariants as space
use Rattle.naga_ir.specs.declared.types.Binding.{Binding}
use Rattle.naga_ir.specs.declared.types.Binding.TheVariants as bound
use Rattle.naga_ir.specs.declared.types.Interpolation.{Interpolation}
use Rattle.naga_ir.specs.declared.types.Sampling.{Sampling}
use Rattle.naga_ir.specs.declared.types.TypeInner.{TypeInner}
use Rattle.naga_ir.specs.declared.types.TypeInner.TheVariants as form
use Rattle.naga_types.proofs.WeakerConditions.{AllWeaker, Weaker, each-weaker, first-weaker, passed-too, require-weaker, same, when-weaker}
use Rattle.naga_types.specs.Checks.{first, require}
use Rattle.naga_types.specs.declared.info.TypeInfo.{TypeInfo}
use Rattle.naga_typing.specs.declared.typifier.TypeResolution.{TypeResolution}
use Rattle.naga_valid.specs.Interfaces.{AcceptsDeclarationsToo, KeepDeclarations, KeepInterfaces, KeepVariables, entry_point_result, is_conflict, known_of, surroundings_of}
use Rattle.naga_valid.specs.MoreCapabilities.{HasMoreCapabilities, KnowsMoreStages}
use Rattle.naga_valid.specs.State.{State}

-- an error that is reported in another is as weak
mapped : {A B : Type 0} (f : A → B) (strict lax : Option A) → Weaker strict lax → Weaker (option_map f strict) (option_map f lax)
mapped f None lax weaker none = ap (option_map f) (weaker refl)
mapped f (Some e) lax weaker none = cc none

module _ (s : InterfaceSurroundings) (more : ℕ) (contained : has more s.capabilities ≡ true) where
  abbrev by_more : InterfaceSurroundings
  by_more = record s { capabilities = more }

  capability-more : (flag : ℕ) → Weaker (variable.capability_error s.capabilities flag) (variable.capability_error more flag)
  capability-more flag = require-weaker (has s.capabilities flag) (has more flag) _ (has-trans more s.capabilities flag contained)

  array-more : (a : AddressSpace) (base : Option ℕ) → Weaker (array_error s a base) (array_error by_more a base)
  array-more a None = same
  array-more (space.Storage access) (Some base) = capability-more STORAGE_BUFFER_BINDING_ARRAY
  array-more space.Uniform (Some base) = capability-more BUFFER_BINDING_ARRAY
  array-more space.Handle (Some base) = capability-more (option_map_or resource_array_capability (form_of s base) 0)
  array-more _ (Some base) = same

  resource-more : (o : Option TypeInner) → Weaker (resource_error s.capabilities o) (resource_error more o)
  resource-more (Some (form.Image dim arrayed class)) = capability-more (class_capability class)
  resource-more (Some (form.Sampler comparison)) = same
  resource-more (Some (form.AccelerationStructure vertex_return)) = same
  resource-more _ = same

  spaces-more : (a : AddressSpace) (t : ℕ) → AllWeaker (space_checks s a t) (space_checks by_more a t)
  spaces-more space.Function t = (same, tt)
  spaces-more space.Private t = tt
  spaces-more space.WorkGroup t = tt
  spaces-more space.Uniform t = (same, tt)
  spaces-more (space.Storage access) t = (same, (same, tt))
  spaces-more space.Handle t = (resource-more (form_of s t), tt)
  spaces-more space.Immediate t = (capability-more IMMEDIATES, (same, tt))
  spaces-more space.TaskPayload t = (capability-more MESH_SHADER, tt)
  spaces-more space.RayPayload t = (capability-more RAY_TRACING_PIPELINE, tt)
  spaces-more space.IncomingRayPayload t = (capability-more RAY_TRACING_PIPELINE, tt)

  decorations-more : (a : AddressSpace) (d : MemoryDecorations) → AllWeaker (decoration_checks s.capabilities a d) (decoration_checks more a d)
  decorations-more a d = (
    same,
    (
      when-weaker d.coherent _ _ (require-weaker (has s.capabilities MEMORY_DECORATION_COHERENT) (has more MEMORY_DECORATION_COHERENT) _ (has-trans more s.capabilities MEMORY_DECORATION_COHERENT contained)),
      (
        when-weaker d.is_volatile _ _ (require-weaker (has s.capabilities MEMORY_DECORATION_VOLATILE) (has more MEMORY_DECORATION_VOLATILE) _ (has-trans more s.capabilities MEMORY_DECORATION_VOLATILE contained)),
        tt,
      ),
    ),
  )

  -- a variable is accepted by more capabilities
  pub variable-more : (known : KnownExpressions) (v : GlobalVariable) → global_variable_rule s known v ≡ Ok tt → global_variable_rule by_more known v ≡ Ok tt
  variable-more known v =
      passed-too (global_variable_checks s known v) (global_variable_checks by_more known v) tt tt (
        array-more v.space (bindings_of s v.ty),
        (
          first-weaker (space_checks s v.space (bound_type s v.ty)) (space_checks by_more v.space (bound_type s v.ty)) (spaces-more v.space (bound_type s v.ty)),
          (
            same,
            (
              first-weaker (decoration_checks s.capabilities v.space v.memory_decorations) (decoration_checks more v.space v.memory_decorations) (decorations-more v.space v.memory_decorations),
              (same, (same, tt)),
            ),
          ),
        ),
      )

module _ (v : VaryingSurroundings) (more : ℕ) (contained : has more v.interface.capabilities ≡ true) where
  abbrev more_varyings : VaryingSurroundings
  more_varyings = record v { interface = record v.interface { capabilities = more } }

  allowed-more : (flag : ℕ) → Weaker (capability_error v flag) (capability_error more_varyings flag)
  allowed-more flag = require-weaker (has v.interface.capabilities flag) (has more flag) _ (has-trans more v.interface.capabilities flag contained)

  sources-more : (before : List Binding) (location source : ℕ) → AllWeaker (source_checks v before location source) (source_checks more_varyings before location source)
  sources-more before location source = (allowed-more DUAL_SOURCE_BLENDING, (same, (same, (same, (same, tt)))))

  places-more : (before : List Binding) (location : ℕ) (source : Option ℕ) → Weaker (first (place_checks v before location source)) (first (place_checks more_varyings before location source))
  places-more before location (Some source) = first-weaker (source_checks v before location source) (source_checks more_varyings before location source) (sources-more before location source)
  places-more before location None = same

  primitive-more : (per_primitive : Bool) → Weaker (first (primitive_checks v per_primitive)) (first (primitive_checks more_varyings per_primitive))
  primitive-more true = first-weaker (primitive_checks v true) (primitive_checks more_varyings true) (allowed-more MESH_SHADER, (same, tt))
  primitive-more false = same

  sampled-more : (i : Option Interpolation) (m : Option Sampling) → AllWeaker (sampling_checks v i m) (sampling_checks more_varyings i m)
  sampled-more i m = (same, (allowed-more (sampling_capability m), (allowed-more (interpolation_capability i), tt)))

  binding-more : (before : List Binding) (ty : ℕ) (b : Binding) → Weaker (first (binding_checks v before ty b)) (first (binding_checks more_varyings before ty b))
  binding-more before ty (bound.BuiltIn b) = first-weaker (built_in_checks v before ty b) (built_in_checks more_varyings before ty b) (same, (allowed-more _, (same, (same, (same, tt)))))
  binding-more before ty (bound.Location location i m source per_primitive) =
      let b = bound.Location location i m source per_primitive in
      first-weaker (binding_checks v before ty b) (binding_checks more_varyings before ty b)
      (same, (primitive-more per_primitive, (places-more before location source, (first-weaker (sampling_checks v i m) (sampling_checks more_varyings i m) (sampled-more i m), (same, tt)))))

  bound-more : (before : List Binding) (i ty : ℕ) (o : Option Binding) → Weaker (bound_error v before i ty o) (bound_error more_varyings before i ty o)
  bound-more before i ty (Some b) = binding-more before ty b
  bound-more before i ty None = same

  unbound-more : (before : List Binding) (o : Option TypeInner) → Weaker (unbound_error v before o) (unbound_error more_varyings before o)
  unbound-more before (Some (form.Struct members span)) =
      each-weaker (member_error v before members) (member_error more_varyings before members)
      (λ at. bound-more (before ++ member_bindings (take at.0 members)) at.0 at.1.ty at.1.binding) (enumerate_from 0 members)
  unbound-more before _ = same

  varying-more : (before : List Binding) (ty : ℕ) (o : Option Binding) → Weaker (varying_error v before ty o) (varying_error more_varyings before ty o)
  varying-more before ty (Some b) = binding-more before ty b
  varying-more before ty None = unbound-more before (form_of v.interface ty)

  inputs-more : (arguments : List FunctionArgument) → Weaker (inputs_error v arguments) (inputs_error more_varyings arguments)
  inputs-more arguments =
      each-weaker (input_error v arguments) (input_error more_varyings arguments)
      (λ at. mapped (entry_point_error.Argument at.0) _ _ (varying-more (argument_bindings v.interface (take at.0 arguments)) at.1.ty at.1.binding)) (enumerate_from 0 arguments)

  output-more : (o : Option FunctionResult) → Weaker (output_error v o) (output_error more_varyings o)
  output-more (Some r) = mapped entry_point_error.Result _ _ (varying-more [] r.ty r.binding)
  output-more None = same

module _ (s : InterfaceSurroundings) (more : ℕ) (contained : has more s.capabilities ≡ true) (known : KnownExpressions) (stages more_stages : ℕ) (as_usable : has more_stages stages ≡ true) (e : EntryPoint) where
  depth-more : (stage : ShaderStage) (test : Option EarlyDepthTest) → Weaker (first (early_depth_checks s.capabilities stage test)) (first (early_depth_checks more stage test))
  depth-more stage None = same
  depth-more stage (Some test) =
      first-weaker (early_depth_checks s.capabilities stage (Some test)) (early_depth_checks more stage (Some test))
      (require-weaker (has s.capabilities EARLY_DEPTH_TEST) (has more EARLY_DEPTH_TEST) _ (has-trans more s.capabilities EARLY_DEPTH_TEST contained), (same, tt))

  abbrev inputs : ShaderStage → VaryingSurroundings
  inputs stage = record { interface = s; stage = stage; direction = Input; workgroup_size = e.workgroup_size }

  abbrev outputs : ShaderStage → VaryingSurroundings
  outputs stage = record { interface = s; stage = stage; direction = Output; workgroup_size = e.workgroup_size }

  covered-more : (stage : ShaderStage) → AllWeaker (covered_checks s known stages e stage) (covered_checks (by_more s more contained) known more_stages e stage)
  covered-more stage = (
    depth-more stage e.early_depth_test,
    (
      same,
      (
        same,
        (
          require-weaker (has stages (stage_flag stage)) (has more_stages (stage_flag stage)) _ (has-trans more_stages stages (stage_flag stage) as_usable),
          (inputs-more (inputs stage) more contained e.function.arguments, (output-more (outputs stage) more contained e.function.result, (same, tt))),
        ),
      ),
    ),
  )

  checks-more : (o : Option ShaderStage) → AllWeaker (entry_point_checks s known stages e o) (entry_point_checks (by_more s more contained) known more_stages e o)
  checks-more (Some stage) = (same, covered-more stage)
  checks-more None = (same, tt)

  -- an entry point is accepted by more capabilities, if no fewer stages may use it
  pub entry_point-more : (before : List EntryPoint) → entry_point_result s known stages before e ≡ Ok tt → entry_point_result (by_more s more contained) known more_stages before e ≡ Ok tt
  entry_point-more before =
      let new : Option EntryPointError = require (not (list_any (is_conflict e) before)) entry_point_error.Conflict in
      passed-too (new ∷ entry_point_checks s known stages e e.stage) (new ∷ entry_point_checks (by_more s more contained) known more_stages e e.stage) tt tt (same, checks-more e.stage)

-- what is accepted is `Ok`, and the other way round
is_ok : {E : Type 0} (r : Result (Unit {0}) E) → IsOk r → r ≡ Ok tt
is_ok (Ok u) ok = refl
is_ok (Err e) ok = cc (ok)

to_ok : {E : Type 0} (r : Result (Unit {0}) E) → r ≡ Ok tt → IsOk r
to_ok (Ok u) is = refl
to_ok (Err e) is = cc (is)

module _ {T : Type 0} (less more : State T) (m : Module) (h : HasMoreCapabilities less more) (infos : more.infos ≡ less.infos) where
  abbrev s : InterfaceSurroundings
  s = surroundings_of less m

  abbrev wider : InterfaceSurroundings
  wider = record s { capabilities = more.capabilities.0 }

  abbrev with : ValidationFlags → List TypeInfo → InterfaceSurroundings
  with flags infos = record { flags = flags.0; capabilities = more.capabilities.0; types = m.types; infos = infos }

  same_surroundings : wider ≡ surroundings_of more m
  same_surroundings = ap (λ f. with f less.infos) (sym h.flags) ∙ ap (with more.flags) (sym infos)

  variables-more : (lists : ModuleInfoLists) → KeepVariables less m lists → KeepVariables more m lists
  variables-more lists (kinds, are, all) =
      let known : KnownExpressions = record { types = lists.const_expression_types; kinds = kinds } in
      let strict = global_variable_rule s known in
      let lax = global_variable_rule wider known in
      let kept : All IsOk (map lax m.global_variables) =
      All-map IsOk lax m.global_variables
      (All-weaker (λ v. IsOk (strict v)) (λ v. IsOk (lax v)) (λ v ok. to_ok (lax v) (variable-more s more.capabilities.0 h.capabilities known v (is_ok (strict v) ok))) m.global_variables
      (all-unmap IsOk strict m.global_variables all)) in
      (kinds, are, subst (λ (around : InterfaceSurroundings). All IsOk (map (global_variable_rule around known) m.global_variables)) same_surroundings kept)

  functions-more : (lists more_lists : ModuleInfoLists) → KnowsMoreStages lists more_lists → (count : ℕ) → KeepDeclarations less m lists count → KeepDeclarations more m more_lists count
  functions-more lists more_lists knows count kept i within =
      let own = kept i within in
      let found = found_at more_lists.functions i (omega (arith, knows.functions.as_many, slice_get_within lists.functions i own.info own.has_info)) in
      let types : found.0.types ≡ own.info.types = (knows.functions.each i own.info found.0 own.has_info found.1).types in
      let wide : declaration_rule wider (known_of own.info own.kinds) false own.function ≡ Ok tt = own.rule in
      let by_types : declaration_rule wider (known_of found.0 own.kinds) false own.function ≡ Ok tt =
      subst (λ (types : List TypeResolution). declaration_rule wider (record { types = types; kinds = own.kinds }) false own.function ≡ Ok tt) (sym types) wide in
      record {
        function = own.function;
        there = own.there;
        info = found.0;
        has_info = found.1;
        kinds = own.kinds;
        are_kinds = own.are_kinds;
        rule = subst (λ (around : InterfaceSurroundings). declaration_rule around (known_of found.0 own.kinds) false own.function ≡ Ok tt) same_surroundings by_types;
      }

  entry_points-more : (lists more_lists : ModuleInfoLists) → KnowsMoreStages lists more_lists → (count : ℕ) → KeepInterfaces less m lists count → KeepInterfaces more m more_lists count
  entry_points-more lists more_lists knows count kept i within =
      let own = kept i within in
      let found = found_at more_lists.entry_points i (omega (arith, knows.entry_points.as_many, slice_get_within lists.entry_points i own.info own.has_info)) in
      let usable = knows.entry_points.each i own.info found.0 own.has_info found.1 in
      let before = take i m.entry_points in
      let stages = found.0.available_stages.0 in
      let wide : entry_point_result wider (known_of own.info own.kinds) stages before own.entry_point ≡ Ok tt =
      entry_point-more s more.capabilities.0 h.capabilities (known_of own.info own.kinds) own.info.available_stages.0 stages usable.stages own.entry_point before own.rule in
      let by_types : entry_point_result wider (known_of found.0 own.kinds) stages before own.entry_point ≡ Ok tt =
      subst (λ (types : List TypeResolution). entry_point_result wider (record { types = types; kinds = own.kinds }) stages before own.entry_point ≡ Ok tt) (sym usable.types) wide in
      record {
        entry_point = own.entry_point;
        there = own.there;
        info = found.0;
        has_info = found.1;
        kinds = own.kinds;
        are_kinds = own.are_kinds;
        rule = subst (λ (around : InterfaceSurroundings). entry_point_result around (known_of found.0 own.kinds) stages before own.entry_point ≡ Ok tt) same_surroundings by_types;
      }

  -- declarations that a validator accepts are accepted by one with more capabilities
  pub declarations-more : AcceptsDeclarationsToo less more m
  declarations-more = record { variables = variables-more; functions = functions-more; entry_points = entry_points-more }
