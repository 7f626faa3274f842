-- The words of modules.
use Rattle.std.specs.List.{AllByRecursion, AllZip, flat_map}
use Rattle.std.specs.Prelude.{◌≡◌, ℕ, ◌<◌, ◌≤◌, ◌^◌, All, false, List, [], ◌∷◌, ◌++◌, Option, None, Some, zero, length, map, option_to_list}
use Rattle.naga_arena.specs.Numbers.{largest_u32}
use Rattle.naga_ir.specs.Distinct.{AllDistinct}
use Rattle.naga_ir.specs.declared.ir.DocComments.{DocComments}
use Rattle.naga_ir.specs.declared.ir.EarlyDepthTest.{EarlyDepthTest}
use Rattle.naga_ir.specs.declared.ir.EntryPoint.{EntryPoint}
use Rattle.naga_ir.specs.declared.ir.Function.{Function}
use Rattle.naga_ir.specs.declared.ir.Module.{Module}
use Rattle.naga_ir.specs.declared.ir.ShaderStage.{ShaderStage}
use Rattle.naga_draft.specs.Bodies.{depth, marks_of_block, most_open}
use Rattle.naga_draft.specs.declared.draft.Contents.{Contents}
use Rattle.naga_draft.specs.declared.item.Commented.TheVariants as on
use Rattle.naga_draft.specs.declared.item.EntryStage.{EntryStage}
use Rattle.naga_draft.specs.declared.item.Item.{Item}
use Rattle.naga_draft.specs.declared.item.Item.TheVariants as item
use Rattle.naga_draft.specs.declared.item.Part.{Part}
use Rattle.naga_draft.specs.declared.item.Part.TheVariants as part
use Rattle.naga_words.specs.Writing.{Can, item_words, written_item}

-- the parts of the function `f`
abbrev pub parts_in : Function → List Part
parts_in f =
    map part.Argument f.arguments
    ++ (map part.LocalVariable f.local_variables
    ++ (map part.Result (option_to_list f.result)
    ++ (map (λ n. part.NamedExpression n.0 n.1) f.named_expressions
    ++ (map part.FilterLeaf (option_to_list f.diagnostic_filter_leaf)
    ++ (map part.Expression f.expressions
    ++ map part.Mark (marks_of_block f.body))))))

-- the stage of an entry point and its test of depths, if it has one of them
abbrev pub said_stage : Option ShaderStage → Option EarlyDepthTest → Option EntryStage
said_stage None None = None
said_stage stage early_depth_test = Some (record { stage = stage; early_depth_test = early_depth_test })

-- the sizes of a workgroup, unless all three are 0
abbrev pub said_size : List ℕ → Option (List ℕ)
said_size (zero ∷ zero ∷ zero ∷ []) = None
said_size sizes = Some sizes

-- the parts of the entry point `e`
abbrev pub entry_parts_in : EntryPoint → List Part
entry_parts_in e =
    map part.Stage (option_to_list (said_stage e.stage e.early_depth_test))
    ++ (map part.WorkgroupSize (option_to_list (said_size e.workgroup_size))
    ++ (map part.WorkgroupSizes (option_to_list e.workgroup_size_overrides)
    ++ (map part.TaskPayload (option_to_list e.task_payload)
    ++ (map part.MeshOutput (option_to_list e.mesh_info)
    ++ parts_in e.function))))

-- the items of the function `f`
abbrev pub function_items : Function → List Item
function_items f = item.Function f.name ∷ map item.Part (parts_in f)

-- the items of the entry point `e`
abbrev pub entry_point_items : EntryPoint → List Item
entry_point_items e = item.EntryPoint e.name ∷ map item.Part (entry_parts_in e)

-- the items of `comments`, which say on what a comment is and not its texts, before `more`
abbrev pub comment_items : DocComments → List Item → List Item
comment_items comments more =
    map (λ c. item.Comment (on.Type_ c.0)) comments.types
    ++ (map (λ c. item.Comment (on.Member c.0.0 c.0.1)) comments.struct_members
    ++ (map (λ c. item.Comment (on.Function c.0)) comments.functions
    ++ (map (λ c. item.Comment (on.EntryPoint c.0)) comments.entry_points
    ++ (map (λ c. item.Comment (on.Constant c.0)) comments.constants
    ++ (map (λ c. item.Comment (on.GlobalVariable c.0)) comments.global_variables
    ++ more)))))

-- the items of the module `m`
abbrev pub items_in : Module → List Item
items_in m =
    map item.Type_ m.types
    ++ (item.SpecialTypes m.special_types.ray_desc m.special_types.ray_intersection m.special_types.ray_vertex_return
    ∷ (map item.PredeclaredType m.special_types.others
    ++ (map item.Constant m.constants
    ++ (map item.Override m.overrides
    ++ (map item.GlobalVariable m.global_variables
    ++ (map item.Expression m.global_expressions
    ++ (map item.Filter m.diagnostic_filters
    ++ (map item.FilterLeaf (option_to_list m.diagnostic_filter_leaf)
    ++ comment_items m.doc_comments
    (flat_map function_items m.functions ++ flat_map entry_point_items m.entry_points)))))))))

-- the words of the module `m`
abbrev pub words_of : Module → List ℕ
words_of m = flat_map item_words (items_in m)

-- the function `f` has no more than words can say
pub record IsSayable (f : Function) : Type 0 where
  pub shallow : depth f.body ≤ most_open
  pub room_for_local_variables : length f.local_variables ≤ largest_u32
  pub room_for_expressions : length f.expressions ≤ largest_u32

-- the function of the entry point `e` has no name of its own, and no more than words can say
pub record IsSayableEntryPoint (e : EntryPoint) : Type 0 where
  pub nameless : e.function.name ≡ None
  pub sayable : IsSayable e.function

-- `comments` have no texts
pub record HaveNoTexts (comments : DocComments) : Type 0 where
  pub on_module : comments.«module» ≡ []
  pub on_types : AllByRecursion (λ c. c.1 ≡ []) comments.types
  pub on_members : AllByRecursion (λ c. c.1 ≡ []) comments.struct_members
  pub on_functions : AllByRecursion (λ c. c.1 ≡ []) comments.functions
  pub on_entry_points : AllByRecursion (λ c. c.1 ≡ []) comments.entry_points
  pub on_constants : AllByRecursion (λ c. c.1 ≡ []) comments.constants
  pub on_variables : AllByRecursion (λ c. c.1 ≡ []) comments.global_variables

-- words can say all that the module `m` has
pub record CanBeSaid (m : Module) : Type 0 where
  pub operands : AllByRecursion (λ x. Can (written_item x).1) (items_in m)
  pub words : All (λ w. w < 2 ^ 32) (words_of m)
  pub types : AllDistinct m.types
  pub functions : AllByRecursion IsSayable m.functions
  pub entry_points : AllByRecursion IsSayableEntryPoint m.entry_points
  pub comments : HaveNoTexts m.doc_comments
  pub room_for_types : length m.types ≤ largest_u32
  pub room_for_constants : length m.constants ≤ largest_u32
  pub room_for_overrides : length m.overrides ≤ largest_u32
  pub room_for_variables : length m.global_variables ≤ largest_u32
  pub room_for_expressions : length m.global_expressions ≤ largest_u32
  pub room_for_functions : length m.functions ≤ largest_u32
  pub room_for_filters : length m.diagnostic_filters ≤ largest_u32

-- the module `m`, and no settings
abbrev pub module_alone : Module → Contents
module_alone m = record { «module» = m; flags = None; capabilities = None; resolved = false }

-- the functions `f` and `g` differ in the room of the vectors of their bodies at most
pub record IsSameFunction (f g : Function) : Type 0 where
  pub but_body : f ≡ record g { body = f.body }
  pub body : marks_of_block f.body ≡ marks_of_block g.body

-- the entry points `e` and `g` differ in the room of the vectors of their bodies at most
pub record IsSameEntryPoint (e g : EntryPoint) : Type 0 where
  pub but_function : e ≡ record g { function = e.function }
  pub function : IsSameFunction e.function g.function

-- the contents `a` and `b` differ in the room of the vectors of bodies at most
pub record AreSame (a b : Contents) : Type 0 where
  pub but_bodies : a ≡ record b {
    «module» = record b.«module» { functions = a.«module».functions; entry_points = a.«module».entry_points };
  }
  pub functions : AllZip IsSameFunction a.«module».functions b.«module».functions
  pub entry_points : AllZip IsSameEntryPoint a.«module».entry_points b.«module».entry_points
