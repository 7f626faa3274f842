-- Types that are accepted under some capabilities are accepted under more, with the same infos.
use Rattle.std.proofs.Common.{◌≡◌, ◌==◌, ◌&&◌, ◌||◌, ℕ, Bool, true, List, [], ◌∷◌, Option, Some, None, Ok, take}
use Rattle.std.specs.Bool.{if◌then◌else◌}
use Rattle.std.specs.List.{enumerate_from}
use Rattle.naga_flags.specs.Bits.{COOPERATIVE_MATRIX, CUBE_ARRAY_TEXTURES, DUAL_SOURCE_BLENDING, RAY_HIT_VERTEX_POSITION, RAY_QUERY, RAY_TRACING_PIPELINE, SHADER_FLOAT32_ATOMIC, SHADER_INT64_ATOMIC_ALL_OPS, SHADER_INT64_ATOMIC_MIN_MAX, TEXTURE_EXTERNAL}
use Rattle.naga_flags.specs.Flags.{has}
use Rattle.naga_flags.specs.Width.{is_good_width, width_32, width_64}
use Rattle.naga_flags.specs.declared.flags.Capabilities.{Capabilities}
use Rattle.naga_flags.proofs.HasLemmas.{has-trans}
use Rattle.naga_flags.proofs.MoreWidths.{good-width-more, or-kept}
use Rattle.naga_ir.specs.ItemReferences.{global_lists}
use Rattle.naga_ir.specs.declared.ir.Module.{Module}
use Rattle.naga_ir.specs.declared.types.ImageClass.{ImageClass}
use Rattle.naga_ir.specs.declared.types.ImageDimension.{ImageDimension}
use Rattle.naga_ir.specs.declared.types.Scalar.{Scalar}
use Rattle.naga_ir.specs.declared.types.StructMember.{StructMember}
use Rattle.naga_ir.specs.declared.types.TypeInner.{TypeInner}
use Rattle.naga_ir.specs.declared.types.TypeInner.TheVariants as form
use Rattle.naga_types.proofs.WeakerConditions.{AllWeaker, Weaker, all-too, each-weaker, first-weaker, granted-too, if-weaker, passed-too, require-weaker, same, when-weaker}
use Rattle.naga_types.specs.AcceptedTypes.{AreTypesAccepted, surroundings_by, types_rule}
use Rattle.naga_types.specs.Checks.{require}
use Rattle.naga_types.specs.StructRule.{has_source, member_checks, member_error, source_checks, source_of, struct_checks}
use Rattle.naga_types.specs.Surroundings.{Surroundings}
use Rattle.naga_types.specs.TypeRule.{acceleration_checks, atomic_error, capability_error, cooperative_checks, image_checks, is_cube, is_external, is_float, is_integer, ray_query_checks, scalar_error, type_rule, vertex_return_condition}
use Rattle.naga_types.specs.declared.error.TypeError.{TypeError}
use Rattle.naga_types.specs.declared.error.TypeError.TheVariants.{InvalidAtomicWidth, MatrixElementNotFloat, MissingCapability}
use Rattle.naga_types.specs.declared.info.TypeInfo.{TypeInfo}
use Rattle.naga_typing.specs.declared.layouter.TypeLayout.{TypeLayout}

module _ (less more : ℕ) (contained : has more less ≡ true) where
  capability-more : (flag : ℕ) (error : TypeError) → Weaker (require (has less flag) error) (require (has more flag) error)
  capability-more flag error = require-weaker (has less flag) (has more flag) error (has-trans more less flag contained)

  either-more : (a b : ℕ) (error : TypeError) → Weaker (require (has less a || has less b) error) (require (has more a || has more b) error)
  either-more a b error =
      require-weaker (has less a || has less b) (has more a || has more b) error
      (or-kept (has less a) (has less b) (has more a) (has more b) (has-trans more less a contained) (has-trans more less b contained))

  scalar-more : (scalar : Scalar) → Weaker (scalar_error less scalar) (scalar_error more scalar)
  scalar-more scalar = require-weaker (is_good_width less scalar) (is_good_width more scalar) _ (good-width-more less more contained scalar)

  atomic-more : (s : Scalar) → Weaker (atomic_error less s) (atomic_error more s)
  atomic-more s =
      let none : Option TypeError = None in
      let bad : Option TypeError = Some (InvalidAtomicWidth s.kind s.width) in
      let of_64 : ℕ → Option TypeError = λ c. require (has c SHADER_INT64_ATOMIC_MIN_MAX || has c SHADER_INT64_ATOMIC_ALL_OPS) (MissingCapability (record { 0 = SHADER_INT64_ATOMIC_ALL_OPS })) in
      let of_float : ℕ → Option TypeError = λ c. capability_error c SHADER_FLOAT32_ATOMIC in
      let is_64 : Bool = is_integer s.kind && s.width == width_64 in
      let is_float_32 : Bool = is_float s.kind && s.width == width_32 in
      let others : ℕ → Option TypeError = λ c. if is_float_32 then of_float c else bad in
      if-weaker (is_integer s.kind && s.width == width_32) none none (if is_64 then of_64 less else others less) (if is_64 then of_64 more else others more) same
      (if-weaker is_64 (of_64 less) (of_64 more) (others less) (others more) (either-more SHADER_INT64_ATOMIC_MIN_MAX SHADER_INT64_ATOMIC_ALL_OPS _)
      (if-weaker is_float_32 (of_float less) (of_float more) bad bad (capability-more SHADER_FLOAT32_ATOMIC _) same))

  image-more : (dim : ImageDimension) (arrayed : Bool) (class : ImageClass) → AllWeaker (image_checks less dim arrayed class) (image_checks more dim arrayed class)
  image-more dim arrayed class = (same, (when-weaker (arrayed && is_cube dim) _ _ (capability-more CUBE_ARRAY_TEXTURES _), (same, (when-weaker (is_external class) _ _ (capability-more TEXTURE_EXTERNAL _), tt))))

  vertices-more : (vertex_return : Bool) → Weaker (vertex_return_condition less vertex_return) (vertex_return_condition more vertex_return)
  vertices-more vertex_return = when-weaker vertex_return _ _ (capability-more RAY_HIT_VERTEX_POSITION _)

  source-more : (is_taken : ℕ → Bool) (source : Option (ℕ × ℕ)) → AllWeaker (source_checks less is_taken source) (source_checks more is_taken source)
  source-more is_taken None = tt
  source-more is_taken (Some (location, source)) = (capability-more DUAL_SOURCE_BLENDING _, (same, (same, tt)))

module _ (s : Surroundings) (more : ℕ) (contained : has more s.capabilities ≡ true) where
  abbrev by_more : Surroundings
  by_more = record s { capabilities = more }

  member-more : (members : List StructMember) (span : ℕ) (at : ℕ × StructMember) → Weaker (member_error s members span at) (member_error by_more members span at)
  member-more members span at =
      let is_taken = has_source (take at.0 members) in
      let source = source_of at.1.binding in
      first-weaker (member_checks s members span at) (member_checks by_more members span at)
      (same, (first-weaker (source_checks s.capabilities is_taken source) (source_checks more is_taken source) (source-more s.capabilities more contained is_taken source), (same, (same, tt))))

  struct-more : (members : List StructMember) (span : ℕ) → AllWeaker (struct_checks s members span) (struct_checks by_more members span)
  struct-more members span = (same, (each-weaker (member_error s members span) (member_error by_more members span) (member-more members span) (enumerate_from 0 members), (same, tt)))

  scalar-too : (scalar : Scalar) → Weaker (scalar_error s.capabilities scalar) (scalar_error more scalar)
  scalar-too = scalar-more s.capabilities more contained

  -- the rule of a type by more capabilities
  type-more : (t : ℕ) (inner : TypeInner) (i : TypeInfo) → type_rule s t inner ≡ Ok i → type_rule by_more t inner ≡ Ok i
  type-more t (form.Scalar scalar) i is = granted-too (scalar_error s.capabilities scalar) (scalar_error more scalar) _ i (scalar-too scalar) is
  type-more t (form.Vector size scalar) i is = granted-too (scalar_error s.capabilities scalar) (scalar_error more scalar) _ i (scalar-too scalar) is
  type-more t (form.Matrix columns rows scalar) i is =
      let of_floats : Option TypeError = require (is_float scalar.kind) MatrixElementNotFloat in
      passed-too (of_floats ∷ scalar_error s.capabilities scalar ∷ []) (of_floats ∷ scalar_error more scalar ∷ []) _ i (same, (scalar-too scalar, tt)) is
  type-more t (form.CooperativeMatrix columns rows scalar role) i is =
      passed-too (cooperative_checks s.capabilities scalar) (cooperative_checks more scalar) _ i (capability-more s.capabilities more contained COOPERATIVE_MATRIX _, (same, tt)) is
  type-more t (form.Atomic scalar) i is = granted-too (atomic_error s.capabilities scalar) (atomic_error more scalar) _ i (atomic-more s.capabilities more contained scalar) is
  type-more t (form.Pointer base space) i is = is
  type-more t (form.ValuePointer size scalar space) i is = granted-too (scalar_error s.capabilities scalar) (scalar_error more scalar) _ i (scalar-too scalar) is
  type-more t (form.Array base size stride) i is = is
  type-more t (form.Struct members span) i is = passed-too (struct_checks s members span) (struct_checks by_more members span) _ i (struct-more members span) is
  type-more t (form.Image dim arrayed class) i is = passed-too (image_checks s.capabilities dim arrayed class) (image_checks more dim arrayed class) _ i (image-more s.capabilities more contained dim arrayed class) is
  type-more t (form.Sampler comparison) i is = is
  type-more t (form.AccelerationStructure vertex_return) i is =
      passed-too (acceleration_checks s.capabilities vertex_return) (acceleration_checks more vertex_return) _ i
      (either-more s.capabilities more contained RAY_TRACING_PIPELINE RAY_QUERY _, (vertices-more s.capabilities more contained vertex_return, tt)) is
  type-more t (form.RayQuery vertex_return) i is =
      passed-too (ray_query_checks s.capabilities vertex_return) (ray_query_checks more vertex_return) _ i
      (capability-more s.capabilities more contained RAY_QUERY _, (vertices-more s.capabilities more contained vertex_return, tt)) is
  type-more t (form.BindingArray base size) i is = is

module _ (m : Module) (less more : Capabilities) (contained : has more.0 less.0 ≡ true) (resolved : Bool) (layouts : List TypeLayout) where
  -- all types are accepted by more capabilities, with the same infos
  pub types-more : (infos : List TypeInfo) → AreTypesAccepted m less resolved layouts infos → AreTypesAccepted m more resolved layouts infos
  types-more infos h = record {
    laid_out = h.laid_out;
    each_type =
        all-too (types_rule (global_lists m) less resolved layouts) (types_rule (global_lists m) more resolved layouts) m.types
        (λ before k ty i at. type-more (surroundings_by (global_lists m) less resolved layouts before) more.0 contained k ty.inner i) infos h.each_type;
  }
