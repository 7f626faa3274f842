-- The items that words say: one reader for each, of its operands, or of those after its name or text if it has one.
use Rattle.std.specs.Prelude.{◌==◌, ◌-◌, ℕ, List, [], ◌∷◌, Option, Some, None, if◌then◌else◌, nat_le, nat_lt, option_map, slice_get}
use Rattle.naga_flags.specs.Bits.{all_capabilities, all_validation_flags}
use Rattle.naga_flags.specs.declared.flags.Capabilities.{Capabilities}
use Rattle.naga_flags.specs.declared.flags.ValidationFlags.{ValidationFlags}
use Rattle.naga_ir.specs.declared.ir.Constant.{Constant}
use Rattle.naga_ir.specs.declared.ir.DiagnosticFilterNode.{DiagnosticFilterNode}
use Rattle.naga_ir.specs.declared.ir.FunctionArgument.{FunctionArgument}
use Rattle.naga_ir.specs.declared.ir.FunctionResult.{FunctionResult}
use Rattle.naga_ir.specs.declared.ir.GlobalVariable.{GlobalVariable}
use Rattle.naga_ir.specs.declared.ir.LocalVariable.{LocalVariable}
use Rattle.naga_ir.specs.declared.ir.MeshOutputTopology.{MeshOutputTopology}
use Rattle.naga_ir.specs.declared.ir.MeshOutputTopology.TheVariants.{Points}
use Rattle.naga_ir.specs.declared.ir.MeshStageInfo.{MeshStageInfo}
use Rattle.naga_ir.specs.declared.ir.Override.{Override}
use Rattle.naga_draft.specs.declared.item.Commented.{Commented}
use Rattle.naga_draft.specs.declared.item.Commented.TheVariants as on
use Rattle.naga_draft.specs.declared.item.EntryStage.{EntryStage}
use Rattle.naga_draft.specs.declared.item.Item.{Item}
use Rattle.naga_draft.specs.declared.item.Item.TheVariants as item
use Rattle.naga_draft.specs.declared.item.Part.{Part}
use Rattle.naga_draft.specs.declared.item.Part.TheVariants as part
use Rattle.naga_words.specs.Expressions.{expression_of}
use Rattle.naga_words.specs.Numbers.{largest_u16, wide}
use Rattle.naga_words.specs.Operands.{◌>>=◌, binding_of, handle_of, none, nothing_of, only_handle_of, only_of, resource_binding_of, space_of}
use Rattle.naga_words.specs.Tables.{early_depth_tests, memory_decorations, stages, topologies, undecorated}
use Rattle.naga_words.specs.Statements.{mark_of}
use Rattle.naga_words.specs.Texts.{name_of, text_of}
use Rattle.naga_words.specs.Types.{type_of}
use Rattle.naga_words.specs.declared.opcodes.TheConstants as code

-- what `reader` reads of the name with which words begin, and of the words after it
abbrev pub after_name : {A : Type 0} → (Option (List ℕ) → List ℕ → Option A) → List ℕ → Option A
after_name reader ws = name_of ws >>= (λ name. reader name.0 name.1)

-- what `reader` reads of the text with which words begin, and of the words after it
abbrev pub after_text : {A : Type 0} → (List ℕ → List ℕ → Option A) → List ℕ → Option A
after_text reader ws = text_of ws >>= (λ text. reader text.0 text.1)

-- the parts that are validated, of their bits
abbrev pub flags_of : List ℕ → Option ValidationFlags
flags_of (bits ∷ []) = if nat_le bits all_validation_flags then Some (record { 0 = bits }) else None
flags_of _ = None

-- what a module may use, of the two words of its bits
abbrev pub capabilities_of : List ℕ → Option Capabilities
capabilities_of (low ∷ high ∷ []) =
    if nat_le (wide low high) all_capabilities then Some (record { 0 = wide low high }) else None
capabilities_of _ = None

-- the three special types
abbrev pub special_types_of : List ℕ → Option Item
special_types_of (d ∷ i ∷ v ∷ []) = Some (item.SpecialTypes (handle_of d) (handle_of i) (handle_of v))
special_types_of _ = None

-- a diagnostic filter, of its parent
abbrev pub filter_of : List ℕ → Option DiagnosticFilterNode
filter_of ws = option_map (λ d. record { parent = handle_of d }) (only_of ws)

-- a member of a struct as what a comment is on, of its type and its index
abbrev pub member_comment_of : List ℕ → Option Commented
member_comment_of (t ∷ i ∷ []) = do
  ty ← handle_of t
  member ← handle_of i
  Some (on.Member ty member)
member_comment_of _ = None

-- what a comment of opcode `o` is on
abbrev pub commented_of : ℕ → List ℕ → Option Commented
commented_of o ws =
    if o == code.OP_COMMENT_ON_TYPE then option_map on.Type_ (only_handle_of ws)
    else if o == code.OP_COMMENT_ON_MEMBER then member_comment_of ws
    else if o == code.OP_COMMENT_ON_FUNCTION then option_map on.Function (only_handle_of ws)
    else if o == code.OP_COMMENT_ON_ENTRY_POINT then option_map on.EntryPoint (only_handle_of ws)
    else if o == code.OP_COMMENT_ON_CONSTANT then option_map on.Constant (only_handle_of ws)
    else if o == code.OP_COMMENT_ON_GLOBAL_VARIABLE then option_map on.GlobalVariable (only_handle_of ws)
    else None

-- the item of opcode `o` that has no name and is neither a type nor an expression
abbrev pub plain_item_of : ℕ → List ℕ → Option Item
plain_item_of o ws =
    if o == code.OP_FLAGS then option_map item.Flags (flags_of ws)
    else if o == code.OP_CAPABILITIES then option_map item.Capabilities (capabilities_of ws)
    else if o == code.OP_RESOLVED then option_map (λ _. item.Resolved) (nothing_of ws)
    else if o == code.OP_SPECIAL_TYPES then special_types_of ws
    else if o == code.OP_PREDECLARED_TYPE then option_map item.PredeclaredType (only_handle_of ws)
    else if o == code.OP_FILTER then option_map item.Filter (filter_of ws)
    else if o == code.OP_FILTER_LEAF then option_map item.FilterLeaf (only_handle_of ws)
    else option_map item.Comment (commented_of o ws)

-- a number of 16 bits in a word
abbrev pub id_of : ℕ → Option ℕ
id_of w = if nat_le w largest_u16 then Some w else None

-- the number of an override, or none
abbrev pub optional_id_of : ℕ → Option (Option ℕ)
optional_id_of w = if w == none then Some None else option_map Some (id_of w)

-- a constant of this name
abbrev pub constant_of : Option (List ℕ) → List ℕ → Option Constant
constant_of name (t ∷ x ∷ []) = do
  ty ← handle_of t
  init ← handle_of x
  Some (record { name = name; ty = ty; init = init })
constant_of name _ = None

-- an override of this name
abbrev pub override_of : Option (List ℕ) → List ℕ → Option Override
override_of name (t ∷ x ∷ n ∷ []) = do
  id ← optional_id_of n
  ty ← handle_of t
  Some (record { name = name; id = id; ty = ty; init = handle_of x })
override_of name _ = None

-- a global variable of this name
abbrev pub global_variable_of : Option (List ℕ) → List ℕ → Option GlobalVariable
global_variable_of name (s ∷ a ∷ t ∷ x ∷ []) = do
  space ← space_of s a
  ty ← handle_of t
  Some (record {
    name = name;
    space = space;
    binding = None;
    ty = ty;
    init = handle_of x;
    memory_decorations = undecorated;
  })
global_variable_of name _ = None

-- a global variable of this name that a pipeline binds, or that has memory decorations
abbrev pub resource_of : Option (List ℕ) → List ℕ → Option GlobalVariable
resource_of name (s ∷ a ∷ t ∷ x ∷ z ∷ g ∷ b ∷ d ∷ []) = do
  space ← space_of s a
  ty ← handle_of t
  binding ← resource_binding_of z g b
  decorations ← slice_get memory_decorations d
  Some (record {
    name = name;
    space = space;
    binding = binding;
    ty = ty;
    init = handle_of x;
    memory_decorations = decorations;
  })
resource_of name _ = None

-- the item of opcode `o` that has a name and is no type
abbrev pub named_item_of : ℕ → Option (List ℕ) → List ℕ → Option Item
named_item_of o name ws =
    if o == code.OP_CONSTANT then option_map item.Constant (constant_of name ws)
    else if o == code.OP_OVERRIDE then option_map item.Override (override_of name ws)
    else if o == code.OP_GLOBAL_VARIABLE then option_map item.GlobalVariable (global_variable_of name ws)
    else if o == code.OP_FUNCTION then option_map (λ _. item.Function name) (nothing_of ws)
    else if o == code.OP_RESOURCE then option_map item.GlobalVariable (resource_of name ws)
    else None

-- the beginning of an entry point of this name
abbrev pub entry_point_of : List ℕ → List ℕ → Option Item
entry_point_of name ws = option_map (λ _. item.EntryPoint name) (nothing_of ws)

-- an argument of this name
abbrev pub argument_of : Option (List ℕ) → List ℕ → Option FunctionArgument
argument_of name (t ∷ z ∷ a ∷ b ∷ []) = do
  ty ← handle_of t
  binding ← binding_of z a b
  Some (record { name = name; ty = ty; binding = binding })
argument_of name _ = None

-- a local variable of this name
abbrev pub local_variable_of : Option (List ℕ) → List ℕ → Option LocalVariable
local_variable_of name (t ∷ x ∷ []) = do
  ty ← handle_of t
  Some (record { name = name; ty = ty; init = handle_of x })
local_variable_of name _ = None

-- the part of opcode `o` that has a name
abbrev pub named_part_of : ℕ → Option (List ℕ) → List ℕ → Option Part
named_part_of o name ws =
    if o == code.OP_ARGUMENT then option_map part.Argument (argument_of name ws)
    else if o == code.OP_LOCAL_VARIABLE then option_map part.LocalVariable (local_variable_of name ws)
    else None

-- the result of a function
abbrev pub function_result_of : List ℕ → Option FunctionResult
function_result_of (t ∷ z ∷ a ∷ b ∷ []) = do
  ty ← handle_of t
  binding ← binding_of z a b
  Some (record { ty = ty; binding = binding })
function_result_of _ = None

-- the expression that has this text as its name
abbrev pub named_expression_of : List ℕ → List ℕ → Option Part
named_expression_of text ws = option_map (λ expression. part.NamedExpression expression text) (only_handle_of ws)

-- the overrides of a workgroup's sizes
abbrev pub workgroup_sizes_of : List ℕ → Option (List (Option ℕ))
workgroup_sizes_of (x ∷ y ∷ z ∷ []) = Some (handle_of x ∷ handle_of y ∷ handle_of z ∷ [])
workgroup_sizes_of _ = None

-- what the primitives of a mesh shader are and how many vertices and primitives it has at most: points and 0, if nothing
-- is said
abbrev pub mesh_numbers_of : List ℕ → Option (MeshOutputTopology × ℕ × ℕ)
mesh_numbers_of [] = Some (Points, 0, 0)
mesh_numbers_of (t ∷ x ∷ y ∷ []) = do
  topology ← slice_get topologies t
  Some (topology, x, y)
mesh_numbers_of _ = None

-- the output of a mesh shader
abbrev pub mesh_output_of : List ℕ → Option MeshStageInfo
mesh_output_of (o ∷ v ∷ p ∷ n ∷ m ∷ more) = do
  numbers ← mesh_numbers_of more
  variable ← handle_of o
  vertex ← handle_of v
  primitive ← handle_of p
  Some (record {
    topology = numbers.0;
    max_vertices = numbers.1;
    max_primitives = numbers.2;
    output_variable = variable;
    vertex_output_type = vertex;
    primitive_output_type = primitive;
    max_vertices_override = handle_of n;
    max_primitives_override = handle_of m;
  })
mesh_output_of _ = None

-- the stage of an entry point
abbrev pub entry_stage_of : List ℕ → Option EntryStage
entry_stage_of (s ∷ e ∷ []) = do
  stage ← slice_get stages s
  early_depth_test ← slice_get early_depth_tests e
  Some (record { stage = stage; early_depth_test = early_depth_test })
entry_stage_of _ = None

-- the sizes of a workgroup
abbrev pub workgroup_size_of : List ℕ → Option (List ℕ)
workgroup_size_of (x ∷ y ∷ z ∷ []) = Some (x ∷ y ∷ z ∷ [])
workgroup_size_of _ = None

-- the part of opcode `o` that has neither a name nor a text and is no expression or mark
abbrev pub plain_part_of : ℕ → List ℕ → Option Part
plain_part_of o ws =
    if o == code.OP_RESULT then option_map part.Result (function_result_of ws)
    else if o == code.OP_FUNCTION_FILTER_LEAF then option_map part.FilterLeaf (only_handle_of ws)
    else if o == code.OP_WORKGROUP_SIZES then option_map part.WorkgroupSizes (workgroup_sizes_of ws)
    else if o == code.OP_TASK_PAYLOAD then option_map part.TaskPayload (only_handle_of ws)
    else if o == code.OP_MESH_OUTPUT then option_map part.MeshOutput (mesh_output_of ws)
    else if o == code.OP_STAGE then option_map part.Stage (entry_stage_of ws)
    else if o == code.OP_WORKGROUP_SIZE then option_map part.WorkgroupSize (workgroup_size_of ws)
    else None

-- what an item of opcode `o` says of a function or entry point
abbrev pub part_of : ℕ → List ℕ → Option Part
part_of o ws =
    if nat_lt o code.OP_RESULT then after_name (named_part_of o) ws
    else if o == code.OP_NAMED_EXPRESSION then after_text named_expression_of ws
    else if nat_lt o code.OP_EXPRESSION then plain_part_of o ws
    else if nat_lt o code.STATEMENT_EMIT then option_map part.Expression (expression_of (o - code.OP_EXPRESSION) ws)
    else option_map part.Mark (mark_of o ws)

-- the item of an opcode and its operands
abbrev pub item_of : ℕ → List ℕ → Option Item
item_of o ws =
    if nat_lt o code.OP_SCALAR then plain_item_of o ws
    else if nat_lt o code.OP_CONSTANT then option_map item.Type_ (type_of o ws)
    else if nat_lt o code.OP_ENTRY_POINT then after_name (named_item_of o) ws
    else if o == code.OP_ENTRY_POINT then after_text entry_point_of ws
    else if o == code.OP_RESOURCE then after_name (named_item_of o) ws
    else if nat_lt o code.OP_GLOBAL_EXPRESSION then option_map item.Part (part_of o ws)
    else if nat_lt o code.OP_EXPRESSION then
    option_map item.Expression (expression_of (o - code.OP_GLOBAL_EXPRESSION) ws)
    else option_map item.Part (part_of o ws)
