-- `FullTyping` keeps the laws of typings. The proof is among the definitions, since an `impl` cites it.
use Rattle.std.proofs.Common.{◌≡◌, ◌<◌, ℕ, List, [], ◌∷◌, Option, Some, None, Ok, Err, All, length, map, slice_get, option_to_list, refl, subst, arith}
use Rattle.std.specs.Prelude.{Bool, true, false, cond}
use Rattle.std.specs.List.{find, flat_map}
use Rattle.std.specs.Option.{option_and_then, option_map}
use Rattle.std.proofs.lemmas.List.Elements.{All-cons, All-nil, All-take}
use Rattle.naga_arena.proofs.Elements.{all-left, all-right, all-unmap, all_at}
use Rattle.naga_ir.proofs.Handles.{global_references_ok}
use Rattle.naga_ir.proofs.ModuleItems.{ray_intersection_exists, ray_vertex_return_exists, result_type_exists, variable_type_exists}
use Rattle.naga_ir.specs.Handles.{Exists, ExistsGlobally, HandlesAccepted, module_counts}
use Rattle.naga_ir.specs.ItemReferences.{GlobalLists, global_lists, global_variable_references, special_types}
use Rattle.naga_ir.specs.References.{named_type}
use Rattle.naga_ir.specs.declared.expression.BinaryOperator.{BinaryOperator}
use Rattle.naga_ir.specs.declared.expression.BinaryOperator.TheVariants.{Multiply}
use Rattle.naga_ir.specs.declared.expression.CooperativeShape.{CooperativeShape}
use Rattle.naga_ir.specs.declared.expression.Expression.{Expression}
use Rattle.naga_ir.specs.declared.expression.Expression.TheVariants as form
use Rattle.naga_ir.specs.declared.expression.ImageQuery.{ImageQuery as Query}
use Rattle.naga_ir.specs.declared.expression.ImageQuery.TheVariants.{Size}
use Rattle.naga_ir.specs.declared.expression.MathFunction.{MathFunction}
use Rattle.naga_ir.specs.declared.expression.MathFunction.TheVariants.{Modf, Frexp}
use Rattle.naga_ir.specs.declared.expression.SwizzleComponent.{SwizzleComponent}
use Rattle.naga_ir.specs.declared.ir.Function.{Function}
use Rattle.naga_ir.specs.declared.ir.FunctionResult.{FunctionResult}
use Rattle.naga_ir.specs.declared.ir.GlobalVariable.{GlobalVariable}
use Rattle.naga_ir.specs.declared.ir.Module.{Module}
use Rattle.naga_ir.specs.declared.reference.Reference.{Reference}
use Rattle.naga_ir.specs.declared.reference.Reference.TheVariants as to
use Rattle.naga_ir.proofs.PartLemmas.{base_is, members_are, parts_of_binding_array, parts_of_pointer}
use Rattle.naga_ir.specs.Parts.{parts, size_override}
use Rattle.naga_ir.specs.declared.types.«Type».{«Type»}
use Rattle.naga_ir.specs.declared.types.AddressSpace.{AddressSpace}
use Rattle.naga_ir.specs.declared.types.AddressSpace.TheVariants as space
use Rattle.naga_ir.specs.declared.types.ImageClass.{ImageClass}
use Rattle.naga_ir.specs.declared.types.ImageClass.TheVariants.{Depth, Sampled}
use Rattle.naga_ir.specs.declared.types.ImageDimension.{ImageDimension}
use Rattle.naga_ir.specs.declared.types.ImageDimension.TheVariants.{D1}
use Rattle.naga_ir.specs.declared.types.Scalar.{Scalar as ScalarType}
use Rattle.naga_ir.specs.declared.types.ScalarKind.{ScalarKind}
use Rattle.naga_ir.specs.declared.types.StructMember.{StructMember}
use Rattle.naga_ir.specs.declared.types.TypeInner.{TypeInner}
use Rattle.naga_ir.specs.declared.types.TypeInner.TheVariants.{Scalar, Vector, Matrix, CooperativeMatrix, Array, BindingArray, Struct, Atomic, Pointer, ValuePointer, Image}
use Rattle.naga_ir.specs.declared.types.VectorSize.{VectorSize}
use Rattle.naga_typing.specs.FullTyping.{at_target, cooperative_load_of, cooperative_matrix, declared, extent_of, full_binary_of, full_cast_of, full_product_of, full_resolves, gathered_of, is_pair, load_of, loaded, member_pointer, most_result_types, or_struct, part_at, part_in, part_pointer, query_of, reference_to, result_of, result_types, sample_in, sample_of, struct_of, target_scalar, texel_of, type_of_variable}
use Rattle.naga_typing.specs.Math.{exponent_type}
use Rattle.naga_typing.specs.PlainLaws.{IsLawfulResult, all_parts_exist, lawful as plain_result, lawful_binary, lawful_named, lawful_operand, lawful_same, of_cast, of_element, of_matrix, of_part, of_product, of_scalar, of_vector, plain_lawful}
use Rattle.naga_typing.specs.PlainTyping.{ResolveResult, of_form, plain_resolves, same_type}
use Rattle.naga_typing.specs.Resolutions.{AllPartsExist, PartsExist, operand}
use Rattle.naga_typing.specs.Typings.{CanResolve, IsLawful}
use Rattle.naga_typing.specs.declared.typifier.ResolveError.TheVariants.{IncompatibleOperands, NotResolvable, OutOfMemory}
use Rattle.naga_typing.specs.declared.typifier.TypeResolution.{TypeResolution}
use Rattle.naga_typing.specs.declared.typifier.TypeResolution.TheVariants.{Value}

module _ (g : GlobalLists) (types_ok : AllPartsExist g.types) where
  of_pointer : (base : ℕ) (space : AddressSpace) → base < length g.types
      → IsLawfulResult g (Ok (Value (Pointer base space)))
  unfolding parts size_override
  of_pointer base space within =
      (All-cons (ExistsGlobally g) (to.Type_ base) [] within (All-nil (ExistsGlobally g)), tt)

  of_value_pointer : (size : Option VectorSize) (scalar : ScalarType) (space : AddressSpace)
      → IsLawfulResult g (Ok (Value (ValuePointer size scalar space)))
  unfolding parts size_override
  of_value_pointer size scalar space = (All-nil (ExistsGlobally g), tt)

  of_declared : (o : Option ℕ) → All (λ t. t < length g.types) (option_to_list o) → IsLawfulResult g (declared o)
  of_declared None all = tt
  of_declared (Some t) all = (all 0 t (omega arith), tt)

  of_reference : (ty : ℕ) (in_space : AddressSpace) → ty < length g.types
      → IsLawfulResult g (Ok (reference_to ty in_space))
  of_reference ty space.Handle within = (within, tt)
  of_reference ty space.Function within = of_pointer ty _ within
  of_reference ty space.Private within = of_pointer ty _ within
  of_reference ty space.WorkGroup within = of_pointer ty _ within
  of_reference ty space.Uniform within = of_pointer ty _ within
  of_reference ty (space.Storage access) within = of_pointer ty _ within
  of_reference ty space.Immediate within = of_pointer ty _ within
  of_reference ty space.TaskPayload within = of_pointer ty _ within
  of_reference ty space.RayPayload within = of_pointer ty _ within
  of_reference ty space.IncomingRayPayload within = of_pointer ty _ within

  of_member_pointer : (space : AddressSpace) (members : List StructMember) (index : Option ℕ)
      → All (λ (m : StructMember). m.ty < length g.types) members
      → IsLawfulResult g (member_pointer space (option_and_then (slice_get members) index))
  of_member_pointer space members None all = tt
  of_member_pointer space members (Some index) all = by_member (slice_get members index) refl
    where
      by_member : (found : Option StructMember) → slice_get members index ≡ found
          → IsLawfulResult g (member_pointer space found)
      by_member None at = tt
      by_member (Some m) at =
          of_pointer m.ty space (all_at (λ (m : StructMember). m.ty < length g.types) members index m all at)

  of_part_pointer : (index : Option ℕ) (space : AddressSpace) (inner : TypeInner) → PartsExist g.types inner
      → IsLawfulResult g (part_pointer index space inner)
  of_part_pointer index space (Struct members span) exist =
      of_member_pointer space members index
      (members_are (λ p. p < length g.types) (Struct members span) members span exist refl)
  of_part_pointer index space (Vector size scalar) exist = of_value_pointer None scalar space
  of_part_pointer index space (Matrix columns rows scalar) exist = of_value_pointer (Some rows) scalar space
  of_part_pointer index space (Array base size stride) exist =
      of_pointer base space (base_is (λ p. p < length g.types) (Array base size stride) base size stride exist refl)
  of_part_pointer index space (BindingArray base size) exist =
      of_pointer base space (exist base (parts_of_binding_array base size))
  of_part_pointer index space _ exist = tt

  -- a rule on what a pointer points to keeps the laws if it keeps them for every type
  of_target : (base : ℕ) (rule : TypeInner → ResolveResult)
      → ((inner : TypeInner) → PartsExist g.types inner → IsLawfulResult g (rule inner))
      → IsLawfulResult g (at_target g.types base rule)
  of_target base rule lawful = by_type (slice_get g.types base) refl
    where
      by_type : (found : Option «Type») → slice_get g.types base ≡ found
          → IsLawfulResult g (of_form (option_map (λ (t : «Type»). t.inner) found) rule)
      by_type None at = tt
      by_type (Some t) at =
          lawful t.inner (all_at (λ (t : «Type»). PartsExist g.types t.inner) g.types base t types_ok at)

  of_part_at : (index : Option ℕ) (inner : TypeInner) → PartsExist g.types inner
      → IsLawfulResult g (part_at index inner)
  of_part_at None inner exist = of_element g inner exist
  of_part_at (Some index) inner exist = of_part g index inner exist

  of_part_in : (index : Option ℕ) (inner : TypeInner) → PartsExist g.types inner
      → IsLawfulResult g (part_in g.types index inner)
  of_part_in index (Pointer base space) exist = of_target base (part_pointer index space) (of_part_pointer index space)
  of_part_in index (ValuePointer (Some size) scalar space) exist = of_value_pointer None scalar space
  of_part_in index (ValuePointer None scalar space) exist = tt
  of_part_in index (BindingArray base size) exist = (exist base (parts_of_binding_array base size), tt)
  of_part_in index _ exist = of_part_at index _ exist

  of_loaded : (base : ℕ) (inner : TypeInner) → base < length g.types → IsLawfulResult g (loaded base inner)
  of_loaded base (Atomic scalar) within = of_scalar g scalar
  of_loaded base _ within = (within, tt)

  of_load : (inner : TypeInner) → PartsExist g.types inner → IsLawfulResult g (load_of g.types inner)
  of_load (Pointer base space) exist =
      of_target base (loaded base)
      (λ target target_exist. of_loaded base target (exist base (parts_of_pointer base space)))
  of_load (ValuePointer (Some size) scalar space) exist = of_vector g size scalar
  of_load (ValuePointer None scalar space) exist = of_scalar g scalar
  of_load _ exist = tt

  of_texel : (class : ImageClass) → IsLawfulResult g (texel_of class)
  of_texel (Depth multi) = of_scalar g _
  of_texel _ = of_vector g _ _

  of_gathered : (class : ImageClass) → IsLawfulResult g (gathered_of class)
  of_gathered (Sampled kind multi) = of_vector g _ _
  of_gathered _ = of_vector g _ _

  of_sample : (gather : Option SwizzleComponent) (class : ImageClass) → IsLawfulResult g (sample_of gather class)
  of_sample None class = of_texel class
  of_sample (Some component) class = of_gathered class

  of_sample_in : (gather : Option SwizzleComponent) (inner : TypeInner) → IsLawfulResult g (sample_in gather inner)
  of_sample_in gather (Image dim arrayed class) = of_sample gather class
  of_sample_in gather _ = tt

  of_extent : (dim : ImageDimension) → IsLawfulResult g (extent_of dim)
  of_extent D1 = of_scalar g _
  of_extent _ = of_vector g _ _

  of_query : (query : Query) (inner : TypeInner) → IsLawfulResult g (query_of query inner)
  of_query (Size level) (Image dim arrayed class) = of_extent dim
  of_query (Size level) _ = tt
  of_query _ inner = of_scalar g _

  of_cooperative_matrix : (shape : CooperativeShape) (scalar : Option ScalarType)
      → IsLawfulResult g (cooperative_matrix shape scalar)
  unfolding parts size_override
  of_cooperative_matrix shape None = tt
  of_cooperative_matrix shape (Some scalar) = (All-nil (ExistsGlobally g), tt)

  of_full_product : (left right : ResolveResult) (x y : TypeInner) → IsLawfulResult g left → IsLawfulResult g right
      → IsLawfulResult g (full_product_of left right x y)
  of_full_product left right (Scalar s) (CooperativeMatrix columns rows scalar role) l r = r
  of_full_product left right x y l r = of_product g left right x y l r

  of_full_cast : (kind : ScalarKind) (convert : Option ℕ) (inner : TypeInner)
      → IsLawfulResult g (full_cast_of kind convert inner)
  of_full_cast kind convert (Matrix columns rows scalar) = of_matrix g columns rows _
  of_full_cast kind convert inner = of_cast g kind convert inner

-- what holds of all items of a list holds of the first that passes a test
found : (p : ℕ → Bool) (P : ℕ → Type 0) (xs : List ℕ) → All P xs → All P (option_to_list (find p xs))
found p P [] all = All-nil P
found p P (x ∷ xs) all = by_test (p x) (found p P xs (all-right P (x ∷ []) xs all))
  where
    by_test : (b : Bool) → All P (option_to_list (find p xs)) → All P (option_to_list (cond b (Some x) (find p xs)))
    by_test true rest = All-cons P x [] (all 0 x (omega arith)) (All-nil P)
    by_test false rest = rest

module _ (m : Module) (handles : HandlesAccepted m) where
  abbrev g : GlobalLists
  g = global_lists m

  abbrev In : Reference → Type 0
  In = Exists (module_counts m)

  types_ok : AllPartsExist m.types
  types_ok = all_parts_exist g (global_references_ok m handles)

  of_variable : (k : ℕ) → IsLawfulResult g (type_of_variable (slice_get m.global_variables k))
  of_variable k = by_variable (slice_get m.global_variables k) refl
    where
      by_variable : (found : Option GlobalVariable) → slice_get m.global_variables k ≡ found
          → IsLawfulResult g (type_of_variable found)
      by_variable None at = tt
      by_variable (Some v) at = of_reference g types_ok v.ty v.space (variable_type_exists m handles k v at)

  abbrev IsType : ℕ → Type 0
  IsType t = t < length m.types

  -- the types that functions may return exist
  pub result_types_exist : All IsType (result_types m)
  result_types_exist =
      let variables = flat_map global_variable_references m.global_variables in
      let rest = all-right In variables _ handles.exist.others in
      let types = special_types m.special_types in
      let special = all-unmap In to.Type_ types (all-left In (map to.Type_ types) _ rest) in
      let after_desc = all-right IsType (option_to_list m.special_types.ray_desc) _ special in
      let after_intersection = all-right IsType (option_to_list m.special_types.ray_intersection) _ after_desc in
      All-take IsType most_result_types m.special_types.others
      (all-right IsType (option_to_list m.special_types.ray_vertex_return) m.special_types.others after_intersection)

  of_struct : (fun : MathFunction) (inner : TypeInner) → IsLawfulResult g (declared (struct_of m fun inner))
  of_struct Modf inner =
      of_declared g types_ok _ (found (is_pair m.types inner inner) IsType (result_types m) result_types_exist)
  of_struct Frexp inner = by_exponent (exponent_type inner)
    where
      by_exponent : (exponent : Option TypeInner)
          → IsLawfulResult g
          (declared (option_and_then (λ (e : TypeInner). find (is_pair m.types inner e) (result_types m)) exponent))
      by_exponent None = tt
      by_exponent (Some e) =
          of_declared g types_ok _ (found (is_pair m.types inner e) IsType (result_types m) result_types_exist)
  of_struct _ inner = tt

  of_call : (k : ℕ) → IsLawfulResult g (declared (option_and_then result_of (slice_get m.functions k)))
  of_call k = by_function (slice_get m.functions k) refl
    where
      by_result : (result : Option FunctionResult)
          → All (λ (r : FunctionResult). r.ty < length m.types) (option_to_list result)
          → IsLawfulResult g (declared (option_map (λ (r : FunctionResult). r.ty) result))
      by_result None all = tt
      by_result (Some r) all = (all 0 r (omega arith), tt)

      by_function : (found : Option Function) → slice_get m.functions k ≡ found
          → IsLawfulResult g (declared (option_and_then result_of found))
      by_function None at = tt
      by_function (Some f) at = by_result f.result (result_type_exists m handles k f at)

module _ (m : Module) (x : Expression) (earlier : List TypeResolution) (can : CanResolve m x earlier) where
  lawful_full_binary : (op : BinaryOperator) (left right : ℕ)
      → IsLawfulResult (global_lists m) (full_binary_of m.types earlier op left right)
  lawful_full_binary Multiply left right =
      lawful_operand m x earlier can left _
      (λ a a_exist.
      lawful_operand m x earlier can right _
      (λ b b_exist.
      of_full_product (global_lists m) (types_ok m can.handles) (same_type (slice_get earlier left))
      (same_type (slice_get earlier right)) a b (lawful_same m x earlier can left)
      (lawful_same m x earlier can right)))
  lawful_full_binary op left right = lawful_binary m x earlier can op left right

  lawful_or_struct : (fun : MathFunction) (arg : ℕ) (plain : ResolveResult) → IsLawfulResult (global_lists m) plain
      → IsLawfulResult (global_lists m) (or_struct m fun (operand m.types earlier arg) plain)
  lawful_or_struct fun arg (Ok r) h = h
  lawful_or_struct fun arg (Err IncompatibleOperands) h = h
  lawful_or_struct fun arg (Err OutOfMemory) h = h
  lawful_or_struct fun arg (Err NotResolvable) h =
      lawful_operand m x earlier can arg (λ inner. declared (struct_of m fun inner))
      (λ inner exist. of_struct m can.handles fun inner)

  lawful_cooperative_load : (shape : Option CooperativeShape) (pointer : ℕ)
      → IsLawfulResult (global_lists m) (cooperative_load_of m.types shape (operand m.types earlier pointer))
  lawful_cooperative_load None pointer = tt
  lawful_cooperative_load (Some shape) pointer =
      lawful_operand m x earlier can pointer (λ inner. cooperative_matrix shape (target_scalar m.types inner))
      (λ inner exist.
      of_cooperative_matrix (global_lists m) (types_ok m can.handles) shape (target_scalar m.types inner))

-- each result of `FullTyping` keeps the laws
lawful : (m : Module) (x : Expression) (earlier : List TypeResolution) → CanResolve m x earlier
    → IsLawfulResult (global_lists m) (full_resolves m x earlier)
unfolding full_resolves named_type
lawful m (form.Access base index) earlier can =
    lawful_operand m (form.Access base index) earlier can base (part_in m.types None)
    (of_part_in (global_lists m) (types_ok m can.handles) None)
lawful m (form.AccessIndex base index) earlier can =
    lawful_operand m (form.AccessIndex base index) earlier can base (part_in m.types (Some index))
    (of_part_in (global_lists m) (types_ok m can.handles) (Some index))
lawful m (form.GlobalVariable v) earlier can = of_variable m can.handles v
lawful m (form.Load pointer) earlier can =
    lawful_operand m (form.Load pointer) earlier can pointer (load_of m.types)
    (of_load (global_lists m) (types_ok m can.handles))
lawful m
    (form.ImageSample image sampler gather coordinate array_index offset level depth_ref clamp_to_edge) earlier can =
    lawful_operand m _ earlier can image (sample_in gather)
    (λ inner exist. of_sample_in (global_lists m) (types_ok m can.handles) gather inner)
lawful m (form.ImageLoad image coordinate array_index sample level) earlier can =
    lawful_operand m _ earlier can image (sample_in None)
    (λ inner exist. of_sample_in (global_lists m) (types_ok m can.handles) None inner)
lawful m (form.ImageQuery image query) earlier can =
    lawful_operand m _ earlier can image (query_of query)
    (λ inner exist. of_query (global_lists m) (types_ok m can.handles) query inner)
lawful m (form.Binary op left right) earlier can =
    lawful_full_binary m (form.Binary op left right) earlier can op left right
lawful m (form.As expr kind convert) earlier can =
    lawful_operand m (form.As expr kind convert) earlier can expr (full_cast_of kind convert)
    (λ inner exist. of_full_cast (global_lists m) (types_ok m can.handles) kind convert inner)
lawful m (form.CallResult f) earlier can = of_call m can.handles f
lawful m (form.AtomicResult ty comparison) earlier can =
    lawful_named m (form.AtomicResult ty comparison) earlier can ty refl
lawful m (form.WorkGroupUniformLoadResult ty) earlier can =
    lawful_named m (form.WorkGroupUniformLoadResult ty) earlier can ty refl
lawful m form.RayQueryProceedResult earlier can = of_scalar (global_lists m) _
lawful m (form.RayQueryGetIntersection query committed) earlier can =
    of_declared (global_lists m) (types_ok m can.handles) _ (ray_intersection_exists m can.handles)
lawful m (form.RayQueryVertexPositions query committed) earlier can =
    of_declared (global_lists m) (types_ok m can.handles) _ (ray_vertex_return_exists m can.handles)
lawful m form.SubgroupBallotResult earlier can = of_vector (global_lists m) _ _
lawful m (form.SubgroupOperationResult ty) earlier can =
    lawful_named m (form.SubgroupOperationResult ty) earlier can ty refl
lawful m (form.CooperativeMultiplyAdd a b c) earlier can =
    lawful_same m (form.CooperativeMultiplyAdd a b c) earlier can c
lawful m (form.FunctionArgument index) earlier can = tt
lawful m (form.LocalVariable v) earlier can = tt
lawful m (form.CooperativeLoad shape pointer stride) earlier can =
    lawful_cooperative_load m (form.CooperativeLoad shape pointer stride) earlier can shape pointer
lawful m (form.Math fun arg arg1 arg2 arg3) earlier can =
    let x = form.Math fun arg arg1 arg2 arg3 in
    lawful_or_struct m x earlier can fun arg (plain_resolves m x earlier) (plain_result m x earlier can)
lawful m _ earlier can = plain_result m _ earlier can

-- `FullTyping` is a lawful typing
pub full_lawful : IsLawful full_resolves
unfolding full_resolves
full_lawful = record {
  literals = plain_lawful.literals;
  constants = plain_lawful.constants;
  overrides = plain_lawful.overrides;
  zero_values = plain_lawful.zero_values;
  compositions = plain_lawful.compositions;
  splats = plain_lawful.splats;
  exist = λ m x earlier r can is. (subst (IsLawfulResult (global_lists m)) is (lawful m x earlier can)).0;
  proper = λ m x earlier r can is. (subst (IsLawfulResult (global_lists m)) is (lawful m x earlier can)).1;
  decided = λ m x earlier can is. subst (IsLawfulResult (global_lists m)) is (lawful m x earlier can);
}
