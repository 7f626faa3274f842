-- What each item of a module refers to.
use Rattle.std.specs.Prelude.{ℕ, List, [], ◌∷◌, ◌++◌, map, Option, Some, None, option_to_list}
use Rattle.std.specs.List.{flat_map}
use Rattle.naga_ir.specs.References.{named_item, named_type, operands}
use Rattle.naga_ir.specs.Parts.{parts, size_override}
use Rattle.naga_ir.specs.Statements.{block_references}
use Rattle.naga_ir.specs.declared.types.«Type».{«Type»}
use Rattle.naga_ir.specs.declared.types.TypeInner.{TypeInner}
use Rattle.naga_ir.specs.declared.expression.Expression.{Expression}
use Rattle.naga_ir.specs.declared.ir.Constant.{Constant}
use Rattle.naga_ir.specs.declared.ir.Override.{Override}
use Rattle.naga_ir.specs.declared.ir.GlobalVariable.{GlobalVariable}
use Rattle.naga_ir.specs.declared.ir.LocalVariable.{LocalVariable}
use Rattle.naga_ir.specs.declared.ir.FunctionArgument.{FunctionArgument}
use Rattle.naga_ir.specs.declared.ir.FunctionResult.{FunctionResult}
use Rattle.naga_ir.specs.declared.ir.Function.{Function}
use Rattle.naga_ir.specs.declared.ir.EntryPoint.{EntryPoint}
use Rattle.naga_ir.specs.declared.ir.MeshStageInfo.{MeshStageInfo}
use Rattle.naga_ir.specs.declared.ir.DiagnosticFilterNode.{DiagnosticFilterNode}
use Rattle.naga_ir.specs.declared.ir.SpecialTypes.{SpecialTypes}
use Rattle.naga_ir.specs.declared.ir.DocComments.{DocComments}
use Rattle.naga_ir.specs.declared.ir.Module.{Module}
use Rattle.naga_ir.specs.declared.reference.Reference.{Reference}
use Rattle.naga_ir.specs.declared.reference.Reference.TheVariants as to

-- a type refers to its parts, and to the override that sizes it
abbrev pub type_references : TypeInner → List Reference
type_references inner = map to.Type_ (parts inner) ++ map to.Override (option_to_list (size_override inner))

-- besides its operands an expression refers to the type and the item that it names
abbrev pub named_references : Expression → List Reference
named_references x = map to.Type_ (option_to_list (named_type x)) ++ option_to_list (named_item x)

-- an expression refers to its operands, and to the type and the item that it names
abbrev pub expression_references : Expression → List Reference
expression_references x = map to.Expression (operands x) ++ named_references x

-- a constant refers to its type and its initialiser
abbrev pub constant_references : Constant → List Reference
constant_references c = to.Type_ c.ty ∷ to.Expression c.init ∷ []

-- an override refers to its type, and to its initialiser if it has one
abbrev pub override_references : Override → List Reference
override_references o = to.Type_ o.ty ∷ map to.Expression (option_to_list o.init)

-- a variable of the module refers to its type, and to its initialiser if it has one
abbrev pub global_variable_references : GlobalVariable → List Reference
global_variable_references v = to.Type_ v.ty ∷ map to.Expression (option_to_list v.init)

-- a variable of a function refers to its type, and to its initialiser if it has one
abbrev pub local_variable_references : LocalVariable → List Reference
local_variable_references v = to.Type_ v.ty ∷ map to.Expression (option_to_list v.init)

-- the signature of a function refers to the types of its arguments and of its result
abbrev pub signature_references : Function → List Reference
signature_references f =
    map (λ (a : FunctionArgument). to.Type_ a.ty) f.arguments
    ++ map (λ (r : FunctionResult). to.Type_ r.ty) (option_to_list f.result)

-- the variables of a function refer to their types and initialisers, and its names to the expressions that they name
abbrev pub local_references : Function → List Reference
local_references f =
    flat_map local_variable_references f.local_variables
    ++ map (λ (n : ℕ × List ℕ). to.Expression n.0) f.named_expressions

-- the body of a function refers to what its statements refer to, and to its filter
abbrev pub body_references : Function → List Reference
body_references f = block_references f.body ++ map to.DiagnosticFilterNode (option_to_list f.diagnostic_filter_leaf)

-- what a function refers to, by what its expressions refer to: its signature, its variables and
-- names, its expressions, and its body
abbrev pub references_with : (Expression → List Reference) → Function → List Reference
references_with of_expression f = signature_references f ++ (local_references f ++ (flat_map of_expression f.expressions ++ body_references f))

-- all that a function refers to
abbrev pub function_references : Function → List Reference
function_references f = references_with expression_references f

-- the sizes of a workgroup that overrides decide
abbrev pub workgroup_sizes : Option (List (Option ℕ)) → List ℕ
workgroup_sizes None = []
workgroup_sizes (Some sizes) = flat_map option_to_list sizes

-- the output of a mesh shader refers to its variable, its types and its greatest numbers
abbrev pub mesh_references : MeshStageInfo → List Reference
mesh_references mesh =
    to.GlobalVariable mesh.output_variable ∷ to.Type_ mesh.vertex_output_type ∷ to.Type_ mesh.primitive_output_type
    ∷ (map to.Expression (option_to_list mesh.max_vertices_override ++ option_to_list mesh.max_primitives_override))

-- what an entry point itself refers to, its function aside
abbrev pub entry_point_references : EntryPoint → List Reference
entry_point_references p =
    map to.Expression (workgroup_sizes p.workgroup_size_overrides)
    ++ (map to.GlobalVariable (option_to_list p.task_payload) ++ flat_map mesh_references (option_to_list p.mesh_info))

-- the types that are special
abbrev pub special_types : SpecialTypes → List ℕ
special_types s = option_to_list s.ray_desc ++ (option_to_list s.ray_intersection ++ (option_to_list s.ray_vertex_return ++ s.others))

-- the items that comments document by a handle
abbrev pub comment_references : DocComments → List Reference
comment_references d =
    map (λ (c : ℕ × List (List ℕ)). to.Type_ c.0) d.types
    ++ (map (λ (c : ℕ × List (List ℕ)). to.Function c.0) d.functions
    ++ (map (λ (c : ℕ × List (List ℕ)). to.Constant c.0) d.constants
    ++ (map (λ (c : ℕ × List (List ℕ)). to.GlobalVariable c.0) d.global_variables
    ++ map (λ (c : (ℕ × ℕ) × List (List ℕ)). to.Type_ c.0.0) d.struct_members)))

-- the lists that types and global expressions refer to
pub record GlobalLists : Type 0 where
  pub types : List «Type»
  pub constants : List Constant
  pub overrides : List Override
  pub expressions : List Expression

-- the lists of a module that its types and global expressions refer to
abbrev pub global_lists : Module → GlobalLists
global_lists m = record { types = m.types; constants = m.constants; overrides = m.overrides; expressions = m.global_expressions }

-- what types, constants, overrides and global expressions refer to
abbrev pub global_references : GlobalLists → List Reference
global_references g =
    flat_map (λ (t : «Type»). type_references t.inner) g.types
    ++ (flat_map constant_references g.constants
    ++ (flat_map override_references g.overrides
    ++ flat_map expression_references g.expressions))

-- what all else in a module refers to, the insides of functions and the parents of filters aside
abbrev pub other_references : Module → List Reference
other_references m =
    flat_map global_variable_references m.global_variables
    ++ (map to.Type_ (special_types m.special_types)
    ++ (flat_map entry_point_references m.entry_points
    ++ (map to.DiagnosticFilterNode (option_to_list m.diagnostic_filter_leaf)
    ++ comment_references m.doc_comments)))

-- the parents of the filters of a module
abbrev pub filter_references : Module → List Reference
filter_references m = flat_map (λ (n : DiagnosticFilterNode). map to.DiagnosticFilterNode (option_to_list n.parent)) m.diagnostic_filters

-- the functions of a module, and of its entry points
abbrev pub all_functions : Module → List Function
all_functions m = m.functions ++ map (λ (p : EntryPoint). p.function) m.entry_points
