-- What items say of a module, and to which function or entry point a part belongs.
use Rattle.std.specs.Prelude.{ℕ, Bool, true, List, [], ◌∷◌, Option, None, Some, filter_map}
use Rattle.naga_flags.specs.declared.flags.Capabilities.{Capabilities as CapabilitySet}
use Rattle.naga_flags.specs.declared.flags.ValidationFlags.{ValidationFlags}
use Rattle.naga_ir.specs.declared.expression.Expression.{Expression as ExpressionType}
use Rattle.naga_ir.specs.declared.ir.Constant.{Constant as ConstantType}
use Rattle.naga_ir.specs.declared.ir.DiagnosticFilterNode.{DiagnosticFilterNode}
use Rattle.naga_ir.specs.declared.ir.FunctionArgument.{FunctionArgument}
use Rattle.naga_ir.specs.declared.ir.FunctionResult.{FunctionResult}
use Rattle.naga_ir.specs.declared.ir.GlobalVariable.{GlobalVariable as GlobalVariableType}
use Rattle.naga_ir.specs.declared.ir.LocalVariable.{LocalVariable as LocalVariableType}
use Rattle.naga_ir.specs.declared.ir.MeshStageInfo.{MeshStageInfo}
use Rattle.naga_ir.specs.declared.ir.Override.{Override as OverrideType}
use Rattle.naga_ir.specs.declared.types.«Type».{«Type»}
use Rattle.naga_draft.specs.declared.item.EntryStage.{EntryStage}
use Rattle.naga_draft.specs.declared.item.Commented.{Commented}
use Rattle.naga_draft.specs.declared.item.Commented.TheVariants as on
use Rattle.naga_draft.specs.declared.item.Item.{Item}
use Rattle.naga_draft.specs.declared.item.Item.TheVariants.{Flags, Capabilities, Resolved, SpecialTypes, PredeclaredType, Filter, FilterLeaf, Comment, Type_, Constant, Override, GlobalVariable, Expression, Function, EntryPoint, Part}
use Rattle.naga_draft.specs.declared.item.Mark.{Mark as MarkType}
use Rattle.naga_draft.specs.declared.item.Part.{Part as PartType}
use Rattle.naga_draft.specs.declared.item.Part.TheVariants as part

-- what an item says of a module besides its functions and entry points: of one kind, or of none
pub record Said : Type 0 where
  pub flags : Option ValidationFlags
  pub capabilities : Option CapabilitySet
  pub resolved : Option Bool
  pub special_types : Option (Option ℕ × Option ℕ × Option ℕ)
  pub predeclared_type : Option ℕ
  pub filter : Option DiagnosticFilterNode
  pub filter_leaf : Option ℕ
  pub type : Option «Type»
  pub constant : Option ConstantType
  pub id : Option OverrideType
  pub global_variable : Option GlobalVariableType
  pub expression : Option ExpressionType
  pub on_type : Option (ℕ × List (List ℕ))
  pub on_member : Option ((ℕ × ℕ) × List (List ℕ))
  pub on_function : Option (ℕ × List (List ℕ))
  pub on_entry_point : Option (ℕ × List (List ℕ))
  pub on_constant : Option (ℕ × List (List ℕ))
  pub on_variable : Option (ℕ × List (List ℕ))

-- what an item says that says nothing of these
abbrev pub nothing : Said
nothing = record {
  flags = None;
  capabilities = None;
  resolved = None;
  special_types = None;
  predeclared_type = None;
  filter = None;
  filter_leaf = None;
  type = None;
  constant = None;
  id = None;
  global_variable = None;
  expression = None;
  on_type = None;
  on_member = None;
  on_function = None;
  on_entry_point = None;
  on_constant = None;
  on_variable = None;
}

-- what an item says that is a comment, which has no texts
abbrev pub comment : Commented → Said
comment (on.Type_ ty) = record nothing { on_type = Some (ty, []) }
comment (on.Member ty index) = record nothing { on_member = Some ((ty, index), []) }
comment (on.Function function) = record nothing { on_function = Some (function, []) }
comment (on.EntryPoint index) = record nothing { on_entry_point = Some (index, []) }
comment (on.Constant constant) = record nothing { on_constant = Some (constant, []) }
comment (on.GlobalVariable variable) = record nothing { on_variable = Some (variable, []) }

-- what one item says of a module
abbrev pub said_by : Item → Said
said_by (Flags flags) = record nothing { flags = Some flags }
said_by (Capabilities capabilities) = record nothing { capabilities = Some capabilities }
said_by Resolved = record nothing { resolved = Some true }
said_by (SpecialTypes ray_desc ray_intersection ray_vertex_return) =
    record nothing { special_types = Some (ray_desc, ray_intersection, ray_vertex_return) }
said_by (PredeclaredType ty) = record nothing { predeclared_type = Some ty }
said_by (Filter filter) = record nothing { filter = Some filter }
said_by (FilterLeaf leaf) = record nothing { filter_leaf = Some leaf }
said_by (Comment commented) = comment commented
said_by (Type_ ty) = record nothing { type = Some ty }
said_by (Constant constant) = record nothing { constant = Some constant }
said_by (Override id) = record nothing { id = Some id }
said_by (GlobalVariable variable) = record nothing { global_variable = Some variable }
said_by (Expression expression) = record nothing { expression = Some expression }
said_by (Function name) = nothing
said_by (EntryPoint name) = nothing
said_by (Part part) = nothing

-- what items say together of a module besides its functions and entry points, each kind in its order
pub record AllSaid : Type 0 where
  pub flags : List ValidationFlags
  pub capabilities : List CapabilitySet
  pub resolved : List Bool
  pub special_types : List (Option ℕ × Option ℕ × Option ℕ)
  pub predeclared_types : List ℕ
  pub filters : List DiagnosticFilterNode
  pub filter_leaves : List ℕ
  pub types : List «Type»
  pub constants : List ConstantType
  pub overrides : List OverrideType
  pub global_variables : List GlobalVariableType
  pub expressions : List ExpressionType
  pub on_types : List (ℕ × List (List ℕ))
  pub on_members : List ((ℕ × ℕ) × List (List ℕ))
  pub on_functions : List (ℕ × List (List ℕ))
  pub on_entry_points : List (ℕ × List (List ℕ))
  pub on_constants : List (ℕ × List (List ℕ))
  pub on_variables : List (ℕ × List (List ℕ))

-- what all of `items` say together
abbrev pub all_said : List Item → AllSaid
all_said items = record {
  flags = filter_map (λ item. (said_by item).flags) items;
  capabilities = filter_map (λ item. (said_by item).capabilities) items;
  resolved = filter_map (λ item. (said_by item).resolved) items;
  special_types = filter_map (λ item. (said_by item).special_types) items;
  predeclared_types = filter_map (λ item. (said_by item).predeclared_type) items;
  filters = filter_map (λ item. (said_by item).filter) items;
  filter_leaves = filter_map (λ item. (said_by item).filter_leaf) items;
  types = filter_map (λ item. (said_by item).type) items;
  constants = filter_map (λ item. (said_by item).constant) items;
  overrides = filter_map (λ item. (said_by item).id) items;
  global_variables = filter_map (λ item. (said_by item).global_variable) items;
  expressions = filter_map (λ item. (said_by item).expression) items;
  on_types = filter_map (λ item. (said_by item).on_type) items;
  on_members = filter_map (λ item. (said_by item).on_member) items;
  on_functions = filter_map (λ item. (said_by item).on_function) items;
  on_entry_points = filter_map (λ item. (said_by item).on_entry_point) items;
  on_constants = filter_map (λ item. (said_by item).on_constant) items;
  on_variables = filter_map (λ item. (said_by item).on_variable) items;
}

-- what a part says of a function or entry point: of one kind
pub record SaidOfFunction : Type 0 where
  pub argument : Option FunctionArgument
  pub local_variable : Option LocalVariableType
  pub result : Option FunctionResult
  pub named_expression : Option (ℕ × List ℕ)
  pub filter_leaf : Option ℕ
  pub workgroup_sizes : Option (List (Option ℕ))
  pub stage : Option EntryStage
  pub workgroup_size : Option (List ℕ)
  pub task_payload : Option ℕ
  pub mesh_output : Option MeshStageInfo
  pub expression : Option ExpressionType
  pub mark : Option MarkType

-- what is left unsaid by a part
abbrev pub nothing_of_function : SaidOfFunction
nothing_of_function = record {
  argument = None;
  local_variable = None;
  result = None;
  named_expression = None;
  filter_leaf = None;
  workgroup_sizes = None;
  stage = None;
  workgroup_size = None;
  task_payload = None;
  mesh_output = None;
  expression = None;
  mark = None;
}

-- what one part says
abbrev pub said_by_part : PartType → SaidOfFunction
said_by_part (part.Argument argument) = record nothing_of_function { argument = Some argument }
said_by_part (part.LocalVariable variable) = record nothing_of_function { local_variable = Some variable }
said_by_part (part.Result result) = record nothing_of_function { result = Some result }
said_by_part (part.NamedExpression named name) = record nothing_of_function { named_expression = Some (named, name) }
said_by_part (part.FilterLeaf leaf) = record nothing_of_function { filter_leaf = Some leaf }
said_by_part (part.WorkgroupSizes sizes) = record nothing_of_function { workgroup_sizes = Some sizes }
said_by_part (part.Stage stage) = record nothing_of_function { stage = Some stage }
said_by_part (part.WorkgroupSize size) = record nothing_of_function { workgroup_size = Some size }
said_by_part (part.TaskPayload variable) = record nothing_of_function { task_payload = Some variable }
said_by_part (part.MeshOutput info) = record nothing_of_function { mesh_output = Some info }
said_by_part (part.Expression expression) = record nothing_of_function { expression = Some expression }
said_by_part (part.Mark mark) = record nothing_of_function { mark = Some mark }

-- what parts say together of a function or entry point, each kind in its order
pub record AllParts : Type 0 where
  pub arguments : List FunctionArgument
  pub local_variables : List LocalVariableType
  pub results : List FunctionResult
  pub named_expressions : List (ℕ × List ℕ)
  pub filter_leaves : List ℕ
  pub workgroup_sizes : List (List (Option ℕ))
  pub stages : List EntryStage
  pub workgroup_size : List (List ℕ)
  pub task_payloads : List ℕ
  pub mesh_outputs : List MeshStageInfo
  pub expressions : List ExpressionType
  pub marks : List MarkType

-- what all of `parts` say together
abbrev pub all_parts : List PartType → AllParts
all_parts parts = record {
  arguments = filter_map (λ p. (said_by_part p).argument) parts;
  local_variables = filter_map (λ p. (said_by_part p).local_variable) parts;
  results = filter_map (λ p. (said_by_part p).result) parts;
  named_expressions = filter_map (λ p. (said_by_part p).named_expression) parts;
  filter_leaves = filter_map (λ p. (said_by_part p).filter_leaf) parts;
  workgroup_sizes = filter_map (λ p. (said_by_part p).workgroup_sizes) parts;
  stages = filter_map (λ p. (said_by_part p).stage) parts;
  workgroup_size = filter_map (λ p. (said_by_part p).workgroup_size) parts;
  task_payloads = filter_map (λ p. (said_by_part p).task_payload) parts;
  mesh_outputs = filter_map (λ p. (said_by_part p).mesh_output) parts;
  expressions = filter_map (λ p. (said_by_part p).expression) parts;
  marks = filter_map (λ p. (said_by_part p).mark) parts;
}

-- what begins a function or an entry point: its name
pub data Head : Type 0 where
  function : Option (List ℕ) → Head
  entry_point : List ℕ → Head

-- what an item is to functions and entry points: it begins one, belongs to one, or neither
pub data Role : Type 0 where
  begins : Head → Role
  belongs : PartType → Role
  neither : Role

-- the role of an item
abbrev pub role : Item → Role
role (Flags flags) = neither
role (Capabilities capabilities) = neither
role Resolved = neither
role (SpecialTypes ray_desc ray_intersection ray_vertex_return) = neither
role (PredeclaredType ty) = neither
role (Filter filter) = neither
role (FilterLeaf leaf) = neither
role (Comment commented) = neither
role (Type_ ty) = neither
role (Constant constant) = neither
role (Override id) = neither
role (GlobalVariable variable) = neither
role (Expression expression) = neither
role (Function name) = begins (function name)
role (EntryPoint name) = begins (entry_point name)
role (Part p) = belongs p

-- the parts before the first head, and each head with the parts that belong to it
abbrev pub Sections : Type 0
Sections = List PartType × List (Head × List PartType)

-- sections, with an item of a role before them
abbrev pub with_role : Role → Sections → Sections
with_role (begins head) later = ([], (head, later.0) ∷ later.1)
with_role (belongs p) later = (p ∷ later.0, later.1)
with_role neither later = later

-- the sections of items: a part belongs to the last head before it
abbrev pub sections : List Item → Sections
sections [] = ([], [])
sections (item ∷ items) = with_role (role item) (sections items)

-- a section of a function: its name and its parts
abbrev pub as_function : Head × List PartType → Option (Option (List ℕ) × List PartType)
as_function (function name, parts) = Some (name, parts)
as_function (entry_point name, parts) = None

-- a section of an entry point: its name and its parts
abbrev pub as_entry_point : Head × List PartType → Option (List ℕ × List PartType)
as_entry_point (function name, parts) = None
as_entry_point (entry_point name, parts) = Some (name, parts)

-- the names and parts of all functions among sections
abbrev pub functions_in : List (Head × List PartType) → List (Option (List ℕ) × List PartType)
functions_in all = filter_map as_function all

-- the names and parts of all entry points among sections
abbrev pub entry_points_in : List (Head × List PartType) → List (List ℕ × List PartType)
entry_points_in all = filter_map as_entry_point all
