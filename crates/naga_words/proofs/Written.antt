-- What is read of written items is what was written.
use Rattle.std.proofs.Common.{◌≡◌, ◌∙◌, ◌==◌, ◌*◌, ◌%◌, ◌/◌, ◌^◌, ◌≤◌, ◌≢◌, ℕ, Bool, true, List, [], ◌∷◌, Option, None, Some, ap, arith, cond, map, refl, rules, slice_get, sym, ◌+◌, ◌<◌, zero, suc, ◌++◌, drop, get_or, length, length-append, take, ◌-◌, lit<, lit≤, false}
use Rattle.std.proofs.lemmas.Bool.{le-leb, ne_eqb, le-ltb, lt-ltb}
use Rattle.std.specs.List.{position_or_len, AllByRecursion, list_all}
use Rattle.naga_arena.specs.Numbers.{largest_u8}
use Rattle.naga_ir.specs.BuiltIns.{built_ins, number as built_in_number}
use Rattle.naga_ir.specs.declared.built_in.BuiltIn.{BuiltIn as BuiltInType}
use Rattle.naga_ir.specs.declared.ir.GlobalVariable.{GlobalVariable}
use Rattle.naga_ir.specs.declared.ir.MemoryDecorations.{MemoryDecorations}
use Rattle.naga_ir.specs.declared.ir.MeshOutputTopology.{MeshOutputTopology}
use Rattle.naga_ir.specs.declared.ir.MeshOutputTopology.TheVariants as topology
use Rattle.naga_ir.specs.declared.ir.ResourceBinding.{ResourceBinding}
use Rattle.naga_ir.specs.declared.statement.Barrier.{Barrier}
use Rattle.naga_ir.specs.declared.statement.CollectiveOperation.TheVariants as collective
use Rattle.naga_ir.specs.declared.statement.SwitchValue.{SwitchValue}
use Rattle.naga_ir.specs.declared.statement.SwitchValue.TheVariants as value
use Rattle.naga_ir.specs.declared.storage_format.StorageFormat.TheVariants as format
use Rattle.naga_ir.specs.declared.types.Interpolation.{Interpolation}
use Rattle.naga_ir.specs.declared.types.Sampling.{Sampling}
use Rattle.naga_draft.specs.declared.item.CaseHead.{CaseHead}
use Rattle.naga_ir.specs.contracts.ir.EarlyDepthTestPartialEq.TheImpl as of_early
use Rattle.naga_ir.specs.contracts.ir.MemoryDecorationsPartialEq.TheImpl as of_decorations
use Rattle.naga_ir.specs.contracts.ir.MeshOutputTopologyPartialEq.TheImpl as of_topology
use Rattle.naga_ir.specs.contracts.ir.ShaderStagePartialEq.TheImpl as of_stage
use Rattle.naga_ir.specs.contracts.statement.BarrierPartialEq.TheImpl as of_barrier
use Rattle.naga_ir.specs.contracts.statement.CollectiveOperationPartialEq.TheImpl as of_collective
use Rattle.naga_ir.specs.contracts.storage_format.StorageFormatPartialEq.TheImpl as of_format
use Rattle.naga_ir.specs.contracts.types.InterpolationPartialEq.TheImpl as of_interpolation
use Rattle.naga_ir.specs.contracts.types.SamplingPartialEq.TheImpl as of_sampling
use Rattle.naga_ir.specs.Sizes.{components as component_count, cooperative_components}
use Rattle.naga_ir.specs.declared.expression.ImageQuery.{ImageQuery}
use Rattle.naga_ir.specs.declared.expression.Literal.{Literal}
use Rattle.naga_ir.specs.declared.expression.SampleLevel.{SampleLevel}
use Rattle.naga_ir.specs.declared.expression.SwizzleComponent.{SwizzleComponent}
use Rattle.naga_ir.specs.declared.statement.AtomicFunction.{AtomicFunction}
use Rattle.naga_ir.specs.declared.statement.GatherMode.{GatherMode}
use Rattle.naga_ir.specs.declared.statement.RayQueryFunction.{RayQueryFunction}
use Rattle.naga_ir.specs.declared.types.AddressSpace.{AddressSpace}
use Rattle.naga_ir.specs.declared.types.ArraySize.{ArraySize}
use Rattle.naga_ir.specs.declared.types.Binding.{Binding}
use Rattle.naga_ir.specs.declared.types.Binding.TheVariants.{BuiltIn, Location}
use Rattle.naga_ir.specs.declared.types.CooperativeSize.{CooperativeSize}
use Rattle.naga_ir.specs.declared.types.ImageClass.{ImageClass}
use Rattle.naga_ir.specs.declared.types.VectorSize.{VectorSize}
use Rattle.naga_words.specs.Items.{optional_id_of, item_of, mesh_output_of}
use Rattle.naga_words.specs.Numbers.{largest_u16, wide}
use Rattle.naga_words.specs.Operands.{array_size_of, binding_of, class_of, converted_width_of, cooperative_size_of, handle_of, level_of, literal_of, none, optional_component_of, pointed_size_of, query_of, size_of, space_of, width_of, resource_binding_of, source_of}
use Rattle.naga_words.specs.Reading.{read_each, read_all, reads_triple}
use Rattle.naga_words.specs.Statements.{atomic_function_of, gather_mode_of, step_of, mark_of, barrier_of, case_of}
use Rattle.naga_words.specs.Tables.{accesses, binary_operators, bools, components, dimensions, kinds, math_functions, relational_functions, roles, subgroup_operations, unary_operators, barriers, collective_operations, early_depth_tests, interpolations, memory_decorations, samplings, stages, storage_formats, topologies}
use Rattle.naga_words.specs.Writing.{Can, Operands, array_size_operands, atomic_operands, binding_operands, class_operands, component, gather_operands, index, level_operands, literal_operands, number, optional, pointed_size, query_operands, space_operands, step_operands, up_to, words, member_operands, members_operands, name_operands, packed, text_operands, Written, written_comment, written_expression, written_inner, written_item, written_mark, written_part, written_statement, barrier_operands, bool, is_bound, location_form, mesh_operands, place, place_or_none, resource_operands, value_operands, written_variable}
use Rattle.naga_words.proofs.Counts.{count_again}
use Rattle.std.proofs.Math.Seq.{drop-append_seam, take-append_seam}
use Rattle.std.proofs.lemmas.Nat.{le_bytes_4}
use Rattle.std.proofs.lemmas.Str.{is_utf8-from_IsUtf8}
use Rattle.std.specs.Int.{w32, w16, w64, cast_unsigned}
use Rattle.std.specs.Str.{IsUtf8}
use Rattle.naga_ir.specs.declared.types.StructMember.{StructMember}
use Rattle.naga_words.specs.Texts.{bytes_in, name_of, text_of, word_count}
use Rattle.naga_words.specs.Types.{first_member, inner_of}
use Rattle.naga_words.proofs.AllLaws.{all_step, onto}
use Rattle.naga_words.proofs.ReaderLaws.{member_shortens}
use Rattle.std.proofs.lemmas.Int.{to_z-of_z}
use Rattle.std.proofs.Math.Facts.{Fits-lt-pow, Fits-of_z}
use Rattle.std.specs.Prelude.{option_map}
use Rattle.naga_flags.specs.Bits.{all_capabilities, all_validation_flags}
use Rattle.naga_ir.specs.declared.expression.Expression.{Expression}
use Rattle.naga_ir.specs.declared.statement.RayPipelineFunction.TheVariants.{TraceRay}
use Rattle.naga_ir.specs.declared.statement.Statement.{Statement}
use Rattle.naga_ir.specs.declared.types.TypeInner.{TypeInner}
use Rattle.naga_draft.specs.declared.item.Commented.{Commented}
use Rattle.naga_draft.specs.declared.item.Item.{Item}
use Rattle.naga_draft.specs.declared.item.Mark.{Mark}
use Rattle.naga_draft.specs.declared.item.Part.{Part}
use Rattle.naga_words.specs.Expressions.{expression_of}
use Rattle.naga_words.proofs.ItemLaws.{expression_item, expression_part, later_item, mark_part}
use Rattle.std.specs.contracts.prelude.BoolPartialEq.TheImpl as of_bool
use Rattle.naga_ir.specs.contracts.expression.BinaryOperatorPartialEq.TheImpl as of_binary
use Rattle.naga_ir.specs.contracts.expression.MathFunctionPartialEq.TheImpl as of_math
use Rattle.naga_ir.specs.contracts.expression.RelationalFunctionPartialEq.TheImpl as of_relational
use Rattle.naga_ir.specs.contracts.expression.SwizzleComponentPartialEq.TheImpl as of_component
use Rattle.naga_ir.specs.contracts.expression.UnaryOperatorPartialEq.TheImpl as of_unary
use Rattle.naga_ir.specs.contracts.statement.SubgroupOperationPartialEq.TheImpl as of_subgroup
use Rattle.naga_ir.specs.contracts.types.CooperativeRolePartialEq.TheImpl as of_role
use Rattle.naga_ir.specs.contracts.types.ImageDimensionPartialEq.TheImpl as of_dimension
use Rattle.naga_ir.specs.contracts.types.ScalarKindPartialEq.TheImpl as of_kind
use Rattle.naga_ir.specs.contracts.types.StorageAccessPartialEq.TheImpl as of_access
use Rattle.naga_ir.specs.declared.expression.ImageQuery.TheVariants as query
use Rattle.naga_ir.specs.declared.expression.Literal.TheVariants as literal
use Rattle.naga_ir.specs.declared.expression.MathFunction.TheVariants as math
use Rattle.naga_ir.specs.declared.expression.SampleLevel.TheVariants as level
use Rattle.naga_ir.specs.declared.statement.AtomicFunction.TheVariants as atomic
use Rattle.naga_ir.specs.declared.statement.GatherMode.TheVariants as gather
use Rattle.naga_ir.specs.declared.statement.RayQueryFunction.TheVariants as step
use Rattle.naga_ir.specs.declared.types.AddressSpace.TheVariants as space
use Rattle.naga_ir.specs.declared.types.ArraySize.TheVariants as sized
use Rattle.naga_ir.specs.declared.types.ImageClass.TheVariants as class
use Rattle.naga_ir.specs.declared.expression.Expression.TheVariants as expression
use Rattle.naga_ir.specs.declared.statement.Statement.TheVariants as statement
use Rattle.naga_ir.specs.declared.types.TypeInner.TheVariants as inner
use Rattle.naga_draft.specs.declared.item.Commented.TheVariants as on
use Rattle.naga_draft.specs.declared.item.Item.TheVariants as item
use Rattle.naga_draft.specs.declared.item.Mark.TheVariants as mark
use Rattle.naga_draft.specs.declared.item.Part.TheVariants as part

-- each value is at its place in its table
abbrev AreAtPlaces : {A : Type 0} → (A → A → Bool) → List A → Type 0
AreAtPlaces {A} eq table = (a : A) → slice_get table (position_or_len (eq a) table) ≡ Some a

pub bool_read : AreAtPlaces of_bool.ghosts.eq bools
bool_read a = search rules

pub kind_read : AreAtPlaces of_kind.ghosts.eq kinds
kind_read a = search rules

pub access_read : AreAtPlaces of_access.ghosts.eq accesses
access_read a = search rules

pub component_read : AreAtPlaces of_component.ghosts.eq components
component_read a = search rules

pub dimension_read : AreAtPlaces of_dimension.ghosts.eq dimensions
dimension_read a = search rules

pub role_read : AreAtPlaces of_role.ghosts.eq roles
role_read a = search rules

pub unary_read : AreAtPlaces of_unary.ghosts.eq unary_operators
unary_read a = search rules

pub binary_read : AreAtPlaces of_binary.ghosts.eq binary_operators
binary_read a = search rules

pub relational_read : AreAtPlaces of_relational.ghosts.eq relational_functions
relational_read a = search rules

pub format_read : AreAtPlaces of_format.ghosts.eq storage_formats
format_read format.R8Unorm = refl
format_read _ = refl

pub decorations_read : AreAtPlaces of_decorations.ghosts.eq memory_decorations
decorations_read a = search rules

pub topology_read : AreAtPlaces of_topology.ghosts.eq topologies
topology_read a = search rules

pub collective_read : AreAtPlaces of_collective.ghosts.eq collective_operations
collective_read a = search rules

-- each value, or none, is at its place in its table
abbrev AreAtPlacesOrNone : {A : Type 0} → (A → A → Bool) → List (Option A) → Type 0
AreAtPlacesOrNone {A} eq table = (a : Option A) → slice_get table (place_or_none eq table a) ≡ Some a

pub interpolation_read : AreAtPlacesOrNone of_interpolation.ghosts.eq interpolations
interpolation_read a = search rules

pub sampling_read : AreAtPlacesOrNone of_sampling.ghosts.eq samplings
sampling_read a = search rules

pub stage_read : AreAtPlacesOrNone of_stage.ghosts.eq stages
stage_read a = search rules

pub early_read : AreAtPlacesOrNone of_early.ghosts.eq early_depth_tests
early_read a = search rules

-- the number of a built-in value is its place
pub built_in_read : (a : BuiltInType) → slice_get built_ins (built_in_number a) ≡ Some a
built_in_read a = search rules

pub math_read : AreAtPlaces of_math.ghosts.eq math_functions
math_read math.Abs = refl
math_read _ = refl

pub subgroup_read : AreAtPlaces of_subgroup.ghosts.eq subgroup_operations
subgroup_read a = search rules

pub size_read : (size : VectorSize) → size_of (component_count size) ≡ Some size
size_read size = search rules

pub cooperative_size_read : (size : CooperativeSize) → cooperative_size_of (cooperative_components size) ≡ Some size
cooperative_size_read size = search rules

pub pointed_size_read : (size : Option VectorSize) → pointed_size_of (pointed_size size).word ≡ Some size
pointed_size_read size = search rules

pub index_read : (i : ℕ) → i ≢ none → handle_of i ≡ Some i
index_read i h = ap (λ b. cond b None (Some i)) (ne_eqb i none h)

pub optional_index_read : (o : Option ℕ) → (optional index o).can → handle_of (optional index o).word ≡ o
optional_index_read None h = refl
optional_index_read (Some i) h = index_read i h

pub indices_read : (is : List ℕ) → Can (map index is) → read_each handle_of (words (map index is)) ≡ Some is
indices_read [] h = refl
indices_read (i ∷ is) h = rw (index_read i h.0, indices_read is h.1) refl

pub width_read : (n : ℕ) → n ≤ largest_u8 → width_of n ≡ Some n
width_read n h = ap (λ b. cond b (Some n) None) (le-leb n largest_u8 h)

pub optional_width_read : (o : Option ℕ) → (optional (up_to largest_u8) o).can → converted_width_of (optional (up_to largest_u8) o).word ≡ Some o
optional_width_read None h = refl
optional_width_read (Some n) h = rw (ne_eqb n none (λ e. omega (arith, e, h)), width_read n h) refl

pub optional_id_read : (o : Option ℕ) → (optional (up_to largest_u16) o).can → optional_id_of (optional (up_to largest_u16) o).word ≡ Some o
optional_id_read None h = refl
optional_id_read (Some n) h = rw (ne_eqb n none (λ e. omega (arith, e, h)), le-leb n largest_u16 h) refl

pub optional_component_read : (o : Option SwizzleComponent) → optional_component_of (optional component o).word ≡ Some o
optional_component_read o = search rules

-- two words of operands and those after them
abbrev AreTwo : {A : Type 0} → (ℕ → ℕ → Option A) → A → Operands → Operands → Type 0
AreTwo reader value operands more = (a : ℕ) × (b : ℕ) × (words operands ≡ a ∷ b ∷ words more) × (reader a b ≡ Some value) × Can more

-- three words
abbrev AreThree : {A : Type 0} → (ℕ → ℕ → ℕ → Option A) → A → Operands → Operands → Type 0
AreThree reader value operands more = (a : ℕ) × (b : ℕ) × (c : ℕ) × (words operands ≡ a ∷ b ∷ c ∷ words more) × (reader a b c ≡ Some value) × Can more

pub space_read : (s : AddressSpace) (more : Operands) → Can (space_operands s more) → AreTwo space_of s (space_operands s more) more
space_read (space.Storage a) more h = (_, _, refl, rw (access_read a) refl, h.1.1)
space_read _ more h = (_, _, refl, refl, h.1.1)

pub array_size_read : (s : ArraySize) (more : Operands) → Can (array_size_operands s more) → AreTwo array_size_of s (array_size_operands s more) more
array_size_read (sized.Constant n) more h = (_, _, refl, rw (count_again n) refl, h.1.1)
array_size_read _ more h = (_, _, refl, search (rules, index_read), h.1.1)

-- the four bytes of a word
bytes_read : (form i s p : ℕ) → form < 256 → i < 256 → s < 256 → let w = form + 256 * i + 65536 * s + 16777216 * p in (w % 256 ≡ form) × (w / 256 % 256 ≡ i) × (w / 65536 % 256 ≡ s) × (w / 16777216 ≡ p)
bytes_read form i s p f g h = (omega (arith, f, g, h), omega (arith, f, g, h), omega (arith, f, g, h), omega (arith, f, g, h))

-- the place of a value, or none, in a short table
interpolation_place : (a : Option Interpolation) → place_or_none of_interpolation.ghosts.eq interpolations a < 256
interpolation_place a = search rules

sampling_place : (a : Option Sampling) → place_or_none of_sampling.ghosts.eq samplings a < 256
sampling_place a = search rules

-- a location is read
location_read : (form location source : ℕ) (i : Option Interpolation) (s : Option Sampling) (b : Option ℕ) (p : Bool) → 2 ≤ form → form < 256 → source_of form source ≡ Some b
    → binding_of (location_form form i s p).word location source ≡ Some (Some (Location location i s b p))
location_read form location source i s b p low high from =
    let w = (location_form form i s p).word in
    let parts = bytes_read form (place_or_none of_interpolation.ghosts.eq interpolations i) (place_or_none of_sampling.ghosts.eq samplings s) (position_or_len (of_bool.ghosts.eq p) bools) high (interpolation_place i) (sampling_place s) in
    let front : w % 256 ≡ form = parts.0 in
    rw (ne_eqb w 0 (λ e. omega (arith, e, front, low)), ne_eqb w 1 (λ e. omega (arith, e, front, low)), parts.0, from, parts.1, interpolation_read i, parts.2, sampling_read s, parts.3, bool_read p) refl

pub binding_read : (b : Option Binding) (more : Operands) → Can (binding_operands b more) → AreThree binding_of b (binding_operands b more) more
binding_read None more h = (_, _, _, refl, refl, h.1.1.1)
binding_read (Some (BuiltIn value)) more h = (_, _, _, refl, rw (built_in_read value) refl, h.1.1.1)
binding_read (Some (Location location i s None p)) more h = (_, _, _, refl, location_read 2 location 0 i s None p (omega arith) (omega arith) refl, h.1.1.1)
binding_read (Some (Location location i s (Some blend_src) p)) more h = (_, _, _, refl, location_read 3 location blend_src i s (Some blend_src) p (omega arith) (omega arith) refl, h.1.1.1)

pub resource_read : (b : Option ResourceBinding) (more : Operands) → Can (resource_operands b more) → AreThree resource_binding_of b (resource_operands b more) more
resource_read None more h = (_, _, _, refl, refl, h.1.1.1)
resource_read (Some b) more h = (_, _, _, refl, refl, h.1.1.1)

pub class_read : (c : ImageClass) (more : Operands) → Can (class_operands c more) → AreThree class_of c (class_operands c more) more
class_read (class.Sampled kind multi) more h = (_, _, _, refl, rw (kind_read kind, bool_read multi) refl, h.1.1.1)
class_read (class.Storage f a) more h = (_, _, _, refl, rw (format_read f, access_read a) refl, h.1.1.1)
class_read _ more h = (_, _, _, refl, search (rules, bool_read), h.1.1.1)

pub level_read : (l : SampleLevel) (more : Operands) → Can (level_operands l more) → AreThree level_of l (level_operands l more) more
level_read level.Auto more h = (_, _, _, refl, refl, h.1.1.1)
level_read _ more h = (_, _, _, refl, search (rules, index_read), h.1.1.1)

pub query_read : (q : ImageQuery) (more : Operands) → Can (query_operands q more) → AreTwo query_of q (query_operands q more) more
query_read (query.Size l) more h = (_, _, refl, ap (λ l. Some (query.Size l)) (optional_index_read l h.1.0), h.1.1)
query_read _ more h = (_, _, refl, refl, h.1.1)

pub atomic_read : (f : AtomicFunction) (more : Operands) → Can (atomic_operands f more) → AreTwo atomic_function_of f (atomic_operands f more) more
atomic_read (atomic.Exchange compare) more h = (_, _, refl, ap (λ c. Some (atomic.Exchange c)) (optional_index_read compare h.1.0), h.1.1)
atomic_read _ more h = (_, _, refl, refl, h.1.1)

pub step_read : (f : RayQueryFunction) (more : Operands) → Can (step_operands f more) → AreThree step_of f (step_operands f more) more
step_read step.Terminate more h = (_, _, _, refl, refl, h.1.1.1)
step_read _ more h = (_, _, _, refl, search (rules, index_read), h.1.1.1)

pub gather_read : (m : GatherMode) (more : Operands) → Can (gather_operands m more) → AreTwo gather_mode_of m (gather_operands m more) more
gather_read gather.QuadSwap more h = (_, _, refl, refl, h.1.1)
gather_read _ more h = (_, _, refl, search (rules, index_read), h.1.1)

-- a number of 64 bits is the one of its two words
pub wide_read : (n : ℕ) → wide (n % 2 ^ 32) (n / 2 ^ 32) ≡ n
wide_read n = omega arith

abbrev AreBytes : List ℕ → Type 0
AreBytes = AllByRecursion (λ b. b < 256)

-- each of few bytes is below 256
each_byte : (bs : List ℕ) → AreBytes bs → (i : ℕ) → get_or bs i 0 < 256
each_byte [] h i = omega arith
each_byte (b ∷ bs) h zero = h.0
each_byte (b ∷ bs) h (suc i) = each_byte bs h.1 i

-- the bytes of packed bytes are these, and zeros
packed_bytes : (bs : List ℕ) → AreBytes bs → (zeros : List ℕ) × (bytes_in (packed bs) ≡ bs ++ zeros) × (list_all (λ b. b == 0) zeros ≡ true)
packed_bytes [] h = ([], refl, refl)
packed_bytes (a ∷ []) h = let z : 0 < 256 = omega arith in (0 ∷ 0 ∷ 0 ∷ [], ap (λ bs. bs ++ []) (le_bytes_4 (a ∷ 0 ∷ 0 ∷ 0 ∷ []) _ refl (each_byte (a ∷ 0 ∷ 0 ∷ 0 ∷ []) (h.0, (z, (z, (z, tt))))) refl), refl)
packed_bytes (a ∷ b ∷ []) h = let z : 0 < 256 = omega arith in (0 ∷ 0 ∷ [], ap (λ bs. bs ++ []) (le_bytes_4 (a ∷ b ∷ 0 ∷ 0 ∷ []) _ refl (each_byte (a ∷ b ∷ 0 ∷ 0 ∷ []) (h.0, (h.1.0, (z, (z, tt))))) refl), refl)
packed_bytes (a ∷ b ∷ c ∷ []) h = let z : 0 < 256 = omega arith in (0 ∷ [], ap (λ bs. bs ++ []) (le_bytes_4 (a ∷ b ∷ c ∷ 0 ∷ []) _ refl (each_byte (a ∷ b ∷ c ∷ 0 ∷ []) (h.0, (h.1.0, (h.1.1.0, (z, tt))))) refl), refl)
packed_bytes (a ∷ b ∷ c ∷ d ∷ rest) h =
    let later = packed_bytes rest h.1.1.1.1 in
    let front = le_bytes_4 (a ∷ b ∷ c ∷ d ∷ []) _ refl (each_byte (a ∷ b ∷ c ∷ d ∷ []) (h.0, (h.1.0, (h.1.1.0, (h.1.1.1.0, tt))))) refl in
    (later.0, (λ j. front j ++ later.1 j), later.2)

-- bytes are packed into as many words as they need
packed_length : (bs : List ℕ) → length (packed bs) ≡ word_count (length bs)
packed_length [] = refl
packed_length (a ∷ []) = refl
packed_length (a ∷ b ∷ []) = refl
packed_length (a ∷ b ∷ c ∷ []) = refl
packed_length (a ∷ b ∷ c ∷ d ∷ rest) = let later = packed_length rest in omega (arith, later)

-- the words of numbers before those of other operands
words_numbers : (ws : List ℕ) (more : Operands) → words (map number ws ++ more) ≡ ws ++ words more
words_numbers [] more = refl
words_numbers (w ∷ ws) more = ap (λ vs. w ∷ vs) (words_numbers ws more)

can_after : (ws : List ℕ) (more : Operands) → Can (map number ws ++ more) → Can more
can_after [] more h = h
can_after (w ∷ ws) more h = can_after ws more h.1

-- the text that was written is read
text_is : (bytes rest : List ℕ) → IsUtf8 bytes → AreBytes bytes → text_of (length bytes ∷ packed bytes ++ rest) ≡ Some (bytes, rest)
text_is bytes rest utf8 small =
    let long = packed_length bytes in
    let fits : word_count (length bytes) ≤ length (packed bytes ++ rest) = let all = length-append (packed bytes) rest in omega (arith, long, all) in
    let front : take (word_count (length bytes)) (packed bytes ++ rest) ≡ packed bytes = ap (λ n. take n (packed bytes ++ rest)) (sym long) ∙ take-append_seam (packed bytes) rest in
    let back : drop (word_count (length bytes)) (packed bytes ++ rest) ≡ rest = ap (λ n. drop n (packed bytes ++ rest)) (sym long) ∙ drop-append_seam (packed bytes) rest in
    let is = packed_bytes bytes small in
    rw (le-leb _ _ fits, front, back, is.1, drop-append_seam bytes is.0, take-append_seam bytes is.0, is.2, is_utf8-from_IsUtf8 bytes utf8) refl

pub text_read : (bytes : List ℕ) (more : Operands) → Can (text_operands bytes more) → (text_of (words (text_operands bytes more)) ≡ Some (bytes, words more)) × Can more
text_read bytes more h = (ap (λ ws. text_of (length bytes ∷ ws)) (words_numbers (packed bytes) more) ∙ text_is bytes (words more) h.0.0 h.0.1, can_after (packed bytes) more h.1)

pub name_read : (name : Option (List ℕ)) (more : Operands) → Can (name_operands name more) → (name_of (words (name_operands name more)) ≡ Some (name, words more)) × Can more
name_read None more h = (refl, h.1)
name_read (Some bytes) more h =
    let few = h.0.0 in
    let some = ne_eqb (length bytes) none (λ e. omega (arith, e, few)) in
    (ap (λ ws. name_of (length bytes ∷ ws)) (words_numbers (packed bytes) more) ∙ rw (some, text_is bytes (words more) h.0.1 h.0.2) refl, can_after (packed bytes) more h.1)

-- the members that were written are read
member_read : (m : StructMember) (more : Operands) → Can (member_operands m more) → (first_member (words (member_operands m more)) ≡ Some (m, words more)) × Can more
member_read m more h =
    let n = name_read m.name _ h in
    let b = binding_read m.binding more n.1.1.1 in
    (rw (n.0, b.3, index_read m.ty n.1.0, b.4) refl, b.5)

pub members_read : (ms : List StructMember) → Can (members_operands ms) → read_all first_member (words (members_operands ms)) ≡ Some ms
members_read [] h = refl
members_read (m ∷ ms) h =
    let first = member_read m (members_operands ms) h in
    all_step first_member member_shortens (words (members_operands (m ∷ ms))) m (words (members_operands ms)) first.0 ∙ ap (onto m) (members_read ms first.1)

-- what is read of each operand
ruleset each_read = (rules, bool_read, kind_read, component_read, dimension_read, role_read, unary_read, binary_read, relational_read, math_read, subgroup_read, size_read, cooperative_size_read, width_read, index_read, optional_index_read, indices_read, optional_width_read, optional_component_read)

-- a signed number of fewer bits than two words have is in the first
small_read : (n most : ℕ) → n ≤ most → most < 2 ^ 32 → (n % 2 ^ 32 ≡ n) × (n / 2 ^ 32 ≡ 0)
small_read n most h k = (omega (arith, h, k), omega (arith, h, k))

-- a literal is read
literal_read : (v : Literal) → Can (literal_operands v) → reads_triple literal_of expression.Literal (words (literal_operands v)) ≡ Some (expression.Literal v)
literal_read (literal.F64 bits) h = rw (wide_read bits) refl
literal_read (literal.F32 bits) h = refl
literal_read (literal.F16 bits) h = rw (le-leb bits largest_u16 h.1.0) refl
literal_read (literal.U16 value) h = rw (le-leb value largest_u16 h.1.0) refl
literal_read (literal.I16 value) h =
    let few : cast_unsigned w16 value < 2 ^ 16 = Fits-lt-pow (Fits-of_z h.1.0) in
    let s = small_read (cast_unsigned w16 value) largest_u16 (omega (arith, few)) (omega arith) in
    rw (s.0, s.1, le-leb (cast_unsigned w16 value) largest_u16 (omega (arith, few)), to_z-of_z w16 value h.1.0) refl
literal_read (literal.U32 value) h = refl
literal_read (literal.I32 value) h =
    let few : cast_unsigned w32 value < 2 ^ 32 = Fits-lt-pow (Fits-of_z h.1.0) in
    let s = small_read (cast_unsigned w32 value) (2 ^ 32 - 1) (omega (arith, few)) (omega arith) in
    rw (s.0, s.1, to_z-of_z w32 value h.1.0) refl
literal_read (literal.U64 value) h = rw (wide_read value) refl
literal_read (literal.I64 value) h = rw (wide_read (cast_unsigned w64 value), to_z-of_z w64 value h.1.0) refl
literal_read (literal.Bool value) h = rw (bool_read value) refl
literal_read (literal.AbstractInt value) h = rw (wide_read (cast_unsigned w64 value), to_z-of_z w64 value h.1.0) refl
literal_read (literal.AbstractFloat bits) h = rw (wide_read bits) refl

-- what a type is made of is read
inner_read : (t : TypeInner) → Can (written_inner t).1 → (16 ≤ (written_inner t).0) × ((written_inner t).0 < 32) × (inner_of (written_inner t).0 (words (written_inner t).1) ≡ Some t)
inner_read (inner.Pointer base p) h = let g = space_read p _ h.1 in (lit≤ tt, lit< tt, rw (g.2, index_read base h.0, g.3) refl)
inner_read (inner.ValuePointer size s p) h = let g = space_read p _ h.1.1.1 in (lit≤ tt, lit< tt, rw (g.2, pointed_size_read size, kind_read s.kind, width_read s.width h.1.1.0, g.3) refl)
inner_read (inner.Array base size stride) h = let g = array_size_read size _ h.1 in (lit≤ tt, lit< tt, rw (g.2, index_read base h.0, g.3) refl)
inner_read (inner.Struct members span) h = (lit≤ tt, lit< tt, rw (members_read members h.1) refl)
inner_read (inner.Image dim arrayed c) h = let g = class_read c _ h.1.1 in (lit≤ tt, lit< tt, rw (g.3, dimension_read dim, bool_read arrayed, g.4) refl)
inner_read (inner.BindingArray base size) h = let g = array_size_read size _ h.1 in (lit≤ tt, lit< tt, rw (g.2, index_read base h.0, g.3) refl)
inner_read _ h = (lit≤ tt, lit< tt, search (each_read))

-- an expression is read
expression_read : (x : Expression) → Can (written_expression x).1 → ((written_expression x).0 ≤ 63) × (expression_of (written_expression x).0 (words (written_expression x).1) ≡ Some x)
expression_read (expression.Literal value) h = (lit≤ tt, literal_read value h)
expression_read (expression.Swizzle size vector (x ∷ y ∷ z ∷ w ∷ [])) h = (lit≤ tt, rw (size_read size, index_read vector h.1.0, component_read x, component_read y, component_read z, component_read w) refl)
expression_read (expression.Swizzle size vector _) h = absurd h.0
expression_read (expression.ImageSample image sampler gather coordinate array_index offset l depth_ref clamp) h = let g = level_read l _ h.1.1.1.1.1.1 in (lit≤ tt, rw (g.3, index_read image h.0, index_read sampler h.1.0, optional_component_read gather, index_read coordinate h.1.1.1.0, optional_index_read array_index h.1.1.1.1.0, optional_index_read offset h.1.1.1.1.1.0, g.4, optional_index_read depth_ref g.5.0, bool_read clamp) refl)
expression_read (expression.ImageQuery image q) h = let g = query_read q _ h.1 in (lit≤ tt, rw (g.2, index_read image h.0, g.3) refl)
expression_read (expression.CooperativeLoad None pointer stride) h = (lit≤ tt, rw (index_read pointer h.0, index_read stride h.1.0) refl)
expression_read (expression.CooperativeLoad (Some shape) pointer stride) h = (lit≤ tt, rw (index_read pointer h.0, index_read stride h.1.0, cooperative_size_read shape.columns, cooperative_size_read shape.rows, role_read shape.role) refl)
expression_read _ h = (lit≤ tt, search (each_read))

-- the memory of a barrier is read
barrier_read : (b : Barrier) → barrier_of (words (barrier_operands b)) ≡ Some b
barrier_read b = go b.storage b.work_group b.sub_group b.texture
  where
    go : (s w g t : Bool) → let b : Barrier = record { storage = s; work_group = w; sub_group = g; texture = t } in barrier_of (words (barrier_operands b)) ≡ Some b
    go false false false false = refl
    go false false false true = refl
    go false false true false = refl
    go false false true true = refl
    go false true false false = refl
    go false true false true = refl
    go false true true false = refl
    go false true true true = refl
    go true false false false = refl
    go true false false true = refl
    go true false true false = refl
    go true false true true = refl
    go true true false false = refl
    go true true false true = refl
    go true true true false = refl
    go true true true true = refl

-- when a case is executed is read
case_read : (head : CaseHead) → Can (bool head.fall_through ∷ value_operands head.value) → case_of (words (bool head.fall_through ∷ value_operands head.value)) ≡ Some head
case_read head h = go head.value h refl
  where
    go : (v : Option SwitchValue) → Can (bool head.fall_through ∷ value_operands v) → head.value ≡ v → case_of (words (bool head.fall_through ∷ value_operands v)) ≡ Some head
    go None h e = rw (bool_read head.fall_through) (ap (λ v. Some (record head { value = v })) (sym e))
    go (Some value.Default) h e = rw (bool_read head.fall_through) (ap (λ v. Some (record head { value = v })) (sym e))
    go (Some (value.I32 z)) h e = rw (bool_read head.fall_through, to_z-of_z w32 z h.1.1.0) (ap (λ v. Some (record head { value = v })) (sym e))
    go (Some (value.U32 n)) h e = rw (bool_read head.fall_through) (ap (λ v. Some (record head { value = v })) (sym e))

-- the opcode and the operands of an item of a body, of which it is read
abbrev IsMarkRead : Mark → Written → Type 0
IsMarkRead m written = (192 ≤ written.0) × (written.0 < 256) × (mark_of written.0 (words written.1) ≡ Some m)

-- a statement is read
statement_read : (s : Statement) → Can (written_statement s).1 → IsMarkRead (mark.Statement s) (written_statement s)
statement_read (statement.Block' shape body) h = absurd h.0
statement_read (statement.If' condition accept_shape accept reject_shape reject) h = absurd h.0
statement_read (statement.Switch' selector shape cases) h = absurd h.0
statement_read (statement.Loop' body_shape body continuing_shape continuing break_if) h = absurd h.0
statement_read (statement.Atomic pointer fun value result) h = let g = atomic_read fun _ h.1 in (lit≤ tt, lit< tt, rw (g.2, index_read pointer h.0, g.3, index_read value g.4.0, optional_index_read result g.4.1.0) refl)
statement_read (statement.ImageAtomic image coordinate array_index fun value) h = let g = atomic_read fun _ h.1.1.1 in (lit≤ tt, lit< tt, rw (g.2, index_read image h.0, index_read coordinate h.1.0, optional_index_read array_index h.1.1.0, g.3, index_read value g.4.0) refl)
statement_read (statement.RayQuery query fun) h = let g = step_read fun _ h.1 in (lit≤ tt, lit< tt, rw (g.3, index_read query h.0, g.4) refl)
statement_read (statement.RayPipelineFunction (TraceRay structure descriptor payload)) h = (lit≤ tt, lit< tt, rw (index_read structure h.0, index_read descriptor h.1.0, index_read payload h.1.1.0) refl)
statement_read (statement.SubgroupGather mode argument result) h = let g = gather_read mode _ h in (lit≤ tt, lit< tt, rw (g.2, g.3, index_read argument g.4.0, index_read result g.4.1.0) refl)
statement_read (statement.ControlBarrier barrier) h = (lit≤ tt, lit< tt, rw (barrier_read barrier) refl)
statement_read (statement.MemoryBarrier barrier) h = (lit≤ tt, lit< tt, rw (barrier_read barrier) refl)
statement_read (statement.SubgroupCollectiveOperation op collective.Reduce argument result) h = (lit≤ tt, lit< tt, rw (subgroup_read op, index_read argument h.1.0, index_read result h.1.1.0) refl)
statement_read (statement.SubgroupCollectiveOperation op by argument result) h = (lit≤ tt, lit< tt, rw (subgroup_read op, index_read argument h.1.0, index_read result h.1.1.0) refl)
statement_read _ h = (lit≤ tt, lit< tt, search (each_read))

-- an item of a body is read
mark_read : (m : Mark) → Can (written_mark m).1 → IsMarkRead m (written_mark m)
mark_read (mark.Statement s) h = statement_read s h
mark_read (mark.Case head) h = (lit≤ tt, lit< tt, rw (case_read head h) refl)
mark_read _ h = (lit≤ tt, lit< tt, search (each_read))

-- the opcode and the operands of an item, of which it is read
abbrev IsRead : Item → Written → Type 0
IsRead x written = (written.0 < 256) × (item_of written.0 (words written.1) ≡ Some x)

-- the output of a mesh shader is read, whatever it is of
mesh_read : (t : MeshOutputTopology) (x y o v p : ℕ) (n m : Option ℕ) → Can (index o ∷ index v ∷ index p ∷ optional index n ∷ optional index m ∷ mesh_operands t x y)
    → mesh_output_of (words (index o ∷ index v ∷ index p ∷ optional index n ∷ optional index m ∷ mesh_operands t x y)) ≡ Some (record { topology = t; max_vertices = x; max_primitives = y; output_variable = o; vertex_output_type = v; primitive_output_type = p; max_vertices_override = n; max_primitives_override = m })
mesh_read topology.Points zero zero o v p n m h = rw (index_read o h.0, index_read v h.1.0, index_read p h.1.1.0, optional_index_read n h.1.1.1.0, optional_index_read m h.1.1.1.1.0) refl
mesh_read topology.Points zero (suc y) o v p n m h = rw (index_read o h.0, index_read v h.1.0, index_read p h.1.1.0, optional_index_read n h.1.1.1.0, optional_index_read m h.1.1.1.1.0) refl
mesh_read topology.Points (suc x) y o v p n m h = rw (index_read o h.0, index_read v h.1.0, index_read p h.1.1.0, optional_index_read n h.1.1.1.0, optional_index_read m h.1.1.1.1.0) refl
mesh_read topology.Lines x y o v p n m h = rw (index_read o h.0, index_read v h.1.0, index_read p h.1.1.0, optional_index_read n h.1.1.1.0, optional_index_read m h.1.1.1.1.0) refl
mesh_read topology.Triangles x y o v p n m h = rw (index_read o h.0, index_read v h.1.0, index_read p h.1.1.0, optional_index_read n h.1.1.1.0, optional_index_read m h.1.1.1.1.0) refl

-- a part is read
part_read : (p : Part) → Can (written_part p).1 → IsRead (item.Part p) (written_part p)
part_read (part.Argument a) h = let n = name_read a.name _ h in let g = binding_read a.binding _ n.1.1 in (lit< tt, rw (n.0, g.3, index_read a.ty n.1.0, g.4) refl)
part_read (part.LocalVariable v) h = let n = name_read v.name _ h in (lit< tt, rw (n.0, index_read v.ty n.1.0, optional_index_read v.init n.1.1.0) refl)
part_read (part.Result r) h = let g = binding_read r.binding _ h.1 in (lit< tt, rw (g.3, index_read r.ty h.0, g.4) refl)
part_read (part.NamedExpression expression bytes) h = let n = text_read bytes _ h in (lit< tt, rw (n.0, index_read expression n.1.0) refl)
part_read (part.WorkgroupSizes (x ∷ y ∷ z ∷ [])) h = (lit< tt, rw (optional_index_read x h.0, optional_index_read y h.1.0, optional_index_read z h.1.1.0) refl)
part_read (part.WorkgroupSizes _) h = absurd h.0
part_read (part.Expression x) h =
    let e = expression_read x h in
    let few : (written_expression x).0 ≤ 63 = e.0 in
    let o = 128 + (written_expression x).0 in
    let ws = words (written_expression x).1 in
    let less : o - 128 ≡ (written_expression x).0 = omega arith in
    (omega (arith, few), later_item o ws (omega arith) ∙ ap (option_map item.Part) (expression_part o ws (omega arith) (omega (arith, few)) ∙ ap (option_map part.Expression) (ap (λ n. expression_of n ws) less ∙ e.1)))
part_read (part.Mark m) h =
    let e = mark_read m h in
    let high : 192 ≤ (written_mark m).0 = e.0 in
    let ws = words (written_mark m).1 in
    (e.1, later_item (written_mark m).0 ws (omega (arith, high)) ∙ ap (option_map item.Part) (mark_part (written_mark m).0 ws high ∙ ap (option_map part.Mark) e.2))
part_read (part.MeshOutput m) h = (lit< tt, rw (mesh_read m.topology m.max_vertices m.max_primitives m.output_variable m.vertex_output_type m.primitive_output_type m.max_vertices_override m.max_primitives_override h) refl)
part_read (part.Stage s) h = (lit< tt, rw (stage_read s.stage, early_read s.early_depth_test) refl)
part_read (part.WorkgroupSize (x ∷ y ∷ z ∷ [])) h = (lit< tt, refl)
part_read (part.WorkgroupSize _) h = absurd h.0
part_read _ h = (lit< tt, search (each_read))

-- a comment is read
comment_read : (c : Commented) → Can (written_comment c).1 → IsRead (item.Comment c) (written_comment c)
comment_read (on.Type_ ty) h = (lit< tt, rw (index_read ty h.0) refl)
comment_read _ h = (lit< tt, search (each_read))

-- a global variable that a pipeline binds, or that has memory decorations, is read
bound_read : (v : GlobalVariable) → Can (written_variable v true).1 → IsRead (item.GlobalVariable v) (written_variable v true)
bound_read v h =
    let n = name_read v.name _ h in
    let g = space_read v.space _ n.1 in
    let r = resource_read v.binding _ g.4.1.1 in
    (lit< tt, rw (n.0, g.2, r.3, g.3, index_read v.ty g.4.0, r.4, decorations_read v.memory_decorations, optional_index_read v.init g.4.1.0) refl)

-- a global variable is read, by what it has of these
variable_read : (v : GlobalVariable) (b : Option ResourceBinding) (c d : Bool) → v.binding ≡ b → v.memory_decorations ≡ record { coherent = c; is_volatile = d }
    → Can (written_variable v (is_bound b c d)).1 → IsRead (item.GlobalVariable v) (written_variable v (is_bound b c d))
variable_read v None false false e f h =
    let n = name_read v.name _ h in
    let g = space_read v.space _ n.1 in
    (lit< tt, rw (n.0, g.2, g.3, index_read v.ty g.4.0, optional_index_read v.init g.4.1.0) (λ j. Some (item.GlobalVariable (record v { binding = sym e j; memory_decorations = sym f j }))))
variable_read v None false true e f h = bound_read v h
variable_read v None true d e f h = bound_read v h
variable_read v (Some b) c d e f h = bound_read v h

-- an item is read
pub item_read : (x : Item) → Can (written_item x).1 → IsRead x (written_item x)
item_read (item.Flags flags) h = (lit< tt, rw (le-leb flags.0 all_validation_flags h.0) refl)
item_read (item.Capabilities c) h = (lit< tt, rw (wide_read c.0, le-leb c.0 all_capabilities h.0) refl)
item_read (item.Comment on) h = comment_read on h
item_read (item.Type_ ty) h =
    let n = name_read ty.name _ h in
    let i = inner_read ty.inner n.1 in
    let o = (written_inner ty.inner).0 in
    let low : 16 ≤ o = i.0 in
    let high : o < 32 = i.1 in
    (omega (arith, high), rw (le-ltb o 16 low, lt-ltb o 32 high, n.0, i.2) refl)
item_read (item.Constant c) h = let n = name_read c.name _ h in (lit< tt, rw (n.0, index_read c.ty n.1.0, index_read c.init n.1.1.0) refl)
item_read (item.Override o) h = let n = name_read o.name _ h in (lit< tt, rw (n.0, index_read o.ty n.1.0, optional_index_read o.init n.1.1.0, optional_id_read o.id n.1.1.1.0) refl)
item_read (item.GlobalVariable v) h = variable_read v v.binding v.memory_decorations.coherent v.memory_decorations.is_volatile refl refl h
item_read (item.Expression x) h =
    let e = expression_read x h in
    let few : (written_expression x).0 ≤ 63 = e.0 in
    let o = 64 + (written_expression x).0 in
    let ws = words (written_expression x).1 in
    let less : o - 64 ≡ (written_expression x).0 = omega arith in
    (omega (arith, few), expression_item o ws (omega arith) (omega (arith, few)) ∙ ap (option_map item.Expression) (ap (λ n. expression_of n ws) less ∙ e.1))
item_read (item.Function bytes) h = let n = name_read bytes _ h in (lit< tt, rw (n.0) refl)
item_read (item.EntryPoint bytes) h = let n = text_read bytes _ h in (lit< tt, rw (n.0) refl)
item_read (item.Part p) h = part_read p h
item_read _ h = (lit< tt, search (each_read))
