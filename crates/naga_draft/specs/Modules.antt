-- The module and settings that items say together.
use Rattle.std.specs.List.{AllZip}
use Rattle.std.specs.Prelude.{◌≡◌, ℕ, ◌≤◌, ◌+◌, false, List, [], ◌∷◌, ◌++◌, Option, None, Some, length, slice_get, unwrap_or}
use Rattle.naga_arena.specs.Numbers.{largest_u32}
use Rattle.naga_ir.specs.Distinct.{AllDistinct}
use Rattle.naga_ir.specs.declared.ir.EntryPoint.{EntryPoint as EntryPointType}
use Rattle.naga_ir.specs.declared.ir.Function.{Function as FunctionType}
use Rattle.naga_ir.specs.declared.ir.Module.{Module}
use Rattle.naga_ir.specs.declared.ir.SpecialTypes.{SpecialTypes as SpecialTypesOfModule}
use Rattle.naga_ir.specs.declared.statement.Block.{Block}
use Rattle.naga_draft.specs.Bodies.{IsBody}
use Rattle.naga_draft.specs.Items.{AllParts, AllSaid, all_parts, all_said, entry_points_in, functions_in, sections}
use Rattle.naga_draft.specs.declared.item.EntryStage.{EntryStage}
use Rattle.naga_draft.specs.declared.item.Item.{Item}
use Rattle.naga_draft.specs.declared.item.Part.{Part as PartType}
use Rattle.naga_draft.specs.declared.draft.Contents.{Contents}

-- the first of a list, if it has one
abbrev pub first_of : {A : Type 0} → List A → Option A
first_of xs = slice_get xs 0

-- the function of this name, of what its parts say, and of a body
abbrev pub function_of : Option (List ℕ) → AllParts → Block → FunctionType
function_of name s body = record {
  name = name;
  arguments = s.arguments;
  result = first_of s.results;
  local_variables = s.local_variables;
  expressions = s.expressions;
  named_expressions = s.named_expressions;
  body = body;
  diagnostic_filter_leaf = first_of s.filter_leaves;
}

-- an entry point of which nothing says a stage
abbrev pub no_stage : EntryStage
no_stage = record { stage = None; early_depth_test = None }

-- the sizes of a workgroup that aren't said
abbrev pub no_workgroup : List ℕ
no_workgroup = 0 ∷ 0 ∷ 0 ∷ []

-- the stage that parts say together, or none
abbrev pub stage_in : AllParts → EntryStage
stage_in s = unwrap_or (first_of s.stages) no_stage

-- the entry point of this name, of what its parts say, and of the body of its function
abbrev pub entry_point_of : List ℕ → AllParts → Block → EntryPointType
entry_point_of name s body = record {
  name = name;
  stage = (stage_in s).stage;
  early_depth_test = (stage_in s).early_depth_test;
  workgroup_size = unwrap_or (first_of s.workgroup_size) no_workgroup;
  workgroup_size_overrides = first_of s.workgroup_sizes;
  function = function_of None s body;
  task_payload = first_of s.task_payloads;
  mesh_info = first_of s.mesh_outputs;
}

-- parts say once at most what may be said once, and arenas have room for the rest
pub record ArePartsConsistent (s : AllParts) : Type 0 where
  pub results : length s.results ≤ 1
  pub filter_leaves : length s.filter_leaves ≤ 1
  pub workgroup_sizes : length s.workgroup_sizes ≤ 1
  pub stages : length s.stages ≤ 1
  pub workgroup_size : length s.workgroup_size ≤ 1
  pub task_payloads : length s.task_payloads ≤ 1
  pub mesh_outputs : length s.mesh_outputs ≤ 1
  pub room_for_local_variables : length s.local_variables ≤ largest_u32
  pub room_for_expressions : length s.expressions ≤ largest_u32

-- parts say nothing that only entry points have
pub record HasNoEntryParts (s : AllParts) : Type 0 where
  pub workgroup_sizes : s.workgroup_sizes ≡ []
  pub stages : s.stages ≡ []
  pub workgroup_size : s.workgroup_size ≡ []
  pub task_payloads : s.task_payloads ≡ []
  pub mesh_outputs : s.mesh_outputs ≡ []

-- the section of a name and parts is the function `f`
pub record IsFunctionOf (section : Option (List ℕ) × List PartType) (f : FunctionType) : Type 0 where
  pub consistent : ArePartsConsistent (all_parts section.1)
  pub no_entry_parts : HasNoEntryParts (all_parts section.1)
  pub body : IsBody (all_parts section.1).marks f.body
  pub function_is : f ≡ function_of section.0 (all_parts section.1) f.body

-- the section of a name and parts is the entry point `e`
pub record IsEntryPointOf (section : List ℕ × List PartType) (e : EntryPointType) : Type 0 where
  pub consistent : ArePartsConsistent (all_parts section.1)
  pub body : IsBody (all_parts section.1).marks e.function.body
  pub entry_point_is : e ≡ entry_point_of section.0 (all_parts section.1) e.function.body

-- the special types that are said, or none, and the types of built-in functions
abbrev pub special_types_of : Option (Option ℕ × Option ℕ × Option ℕ) → List ℕ → SpecialTypesOfModule
special_types_of None others = record {
  ray_desc = None;
  ray_intersection = None;
  ray_vertex_return = None;
  others = others;
}
special_types_of (Some special) others = record {
  ray_desc = special.0;
  ray_intersection = special.1;
  ray_vertex_return = special.2;
  others = others;
}

-- the module of what items say, with these functions and entry points
abbrev pub module_of : AllSaid → List FunctionType → List EntryPointType → Module
module_of s functions entry_points = record {
  types = s.types;
  special_types = special_types_of (first_of s.special_types) s.predeclared_types;
  constants = s.constants;
  overrides = s.overrides;
  global_variables = s.global_variables;
  global_expressions = s.expressions;
  functions = functions;
  entry_points = entry_points;
  diagnostic_filters = s.filters;
  diagnostic_filter_leaf = first_of s.filter_leaves;
  doc_comments = record {
    «module» = [];
    types = s.on_types;
    struct_members = s.on_members;
    entry_points = s.on_entry_points;
    functions = s.on_functions;
    constants = s.on_constants;
    global_variables = s.on_variables;
  };
}

-- items say once at most what may be said once, each type once, and arenas have room for the rest
pub record AreConsistent (s : AllSaid) : Type 0 where
  pub flags : length s.flags ≤ 1
  pub capabilities : length s.capabilities ≤ 1
  pub resolved : length s.resolved ≤ 1
  pub special_types : length s.special_types ≤ 1
  pub filter_leaves : length s.filter_leaves ≤ 1
  pub types : AllDistinct s.types
  pub room_for_types : length s.types ≤ largest_u32
  pub room_for_constants : length s.constants ≤ largest_u32
  pub room_for_overrides : length s.overrides ≤ largest_u32
  pub room_for_variables : length s.global_variables ≤ largest_u32
  pub room_for_expressions : length s.expressions ≤ largest_u32
  pub room_for_filters : length s.filters ≤ largest_u32

-- items say together `contents`: each part belongs to a function or entry point, and each of these is one
pub record Say (items : List Item) (contents : Contents) : Type 0 where
  pub consistent : AreConsistent (all_said items)
  pub room_for_functions : length (functions_in (sections items).1) ≤ largest_u32
  pub no_part_before : (sections items).0 ≡ []
  pub functions : AllZip IsFunctionOf (functions_in (sections items).1) contents.«module».functions
  pub entry_points : AllZip IsEntryPointOf (entry_points_in (sections items).1) contents.«module».entry_points
  pub contents_are : contents ≡ record {
    «module» = module_of (all_said items) contents.«module».functions contents.«module».entry_points;
    flags = first_of (all_said items).flags;
    capabilities = first_of (all_said items).capabilities;
    resolved = unwrap_or (first_of (all_said items).resolved) false;
  }

-- some items after `items` complete what can be read
abbrev pub CanBegin : List Item → Type 0
CanBegin items = (more : List Item) × (contents : Contents) × Say (items ++ more) contents
