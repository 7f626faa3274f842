-- A module while its items are read.
use Rattle.std.specs.List.{AllZip}
use Rattle.std.specs.Prelude.{◌≡◌, ℕ, ◌≤◌, List, [], ◌∷◌, ◌++◌, Option, None, Some, false, length, option_map, unwrap_or, ⊤}
use Rattle.naga_arena.specs.Numbers.{largest_u32}
use Rattle.naga_ir.specs.declared.expression.Expression.{Expression as ExpressionType}
use Rattle.naga_ir.specs.declared.ir.DocComments.{DocComments}
use Rattle.naga_ir.specs.declared.ir.EntryPoint.{EntryPoint as EntryPointType}
use Rattle.naga_ir.specs.declared.ir.Function.{Function as FunctionType}
use Rattle.naga_ir.specs.declared.ir.Module.{Module}
use Rattle.naga_ir.specs.declared.ir.SpecialTypes.{SpecialTypes}
use Rattle.naga_draft.specs.Items.{AllSaid, Head, Sections, all_said, entry_points_in, functions_in, sections}
use Rattle.naga_draft.specs.Modules.{AreConsistent, IsEntryPointOf, IsFunctionOf, first_of, module_of, special_types_of}
use Rattle.naga_draft.specs.declared.draft.Contents.{Contents}
use Rattle.naga_draft.specs.declared.draft.Draft.{Draft}
use Rattle.naga_draft.specs.declared.functions.OpenFunction.{OpenFunction}
use Rattle.naga_draft.specs.declared.item.Commented.{Commented}
use Rattle.naga_draft.specs.declared.item.Commented.TheVariants as on
use Rattle.naga_draft.specs.declared.item.Item.{Item}
use Rattle.naga_draft.specs.declared.item.Item.TheVariants.{Flags, Capabilities, Resolved, SpecialTypes as SpecialTypesItem, PredeclaredType, Filter, FilterLeaf, Comment, Type_, Constant, Override, GlobalVariable, Expression, Function, EntryPoint, Part}
use Rattle.naga_draft.specs.declared.item.Part.{Part as PartType}
use Rattle.naga_draft.specs.OpenFunctions.{AreParts, IsSection, SaysNoBlocks as PartSaysNoBlocks, with_expression}

-- the module of what items say, before their special types are set
abbrev pub drafted : AllSaid → List FunctionType → List EntryPointType → Module
drafted s functions entry_points = record (module_of s functions entry_points) {
  special_types = special_types_of None s.predeclared_types;
}

-- special types, of which an item sets those that are set once, if one does
abbrev pub with_special_types : Option (Option ℕ × Option ℕ × Option ℕ) → SpecialTypes → SpecialTypes
with_special_types None special = special
with_special_types (Some set) special = special_types_of (Some set) special.others

-- what the draft `d` says, without the function or entry point that is open
abbrev pub contents_of : Draft → Contents
contents_of d = record {
  «module» = record (d.«module») { special_types = with_special_types d.special_types d.«module».special_types };
  flags = d.flags;
  capabilities = d.capabilities;
  resolved = unwrap_or d.resolved false;
}

-- a draft with another expression in a place of what is open, if that has one there
abbrev pub draft_with_expression : ℕ → ExpressionType → Draft → Draft
draft_with_expression place expression d = record d { current = option_map (with_expression place expression) d.current }

-- comments, and one more on what is commented
abbrev pub with_comment : Commented → DocComments → DocComments
with_comment (on.Type_ ty) comments = record comments { types = comments.types ++ (ty, []) ∷ [] }
with_comment (on.Member ty index) comments = record comments {
  struct_members = comments.struct_members ++ ((ty, index), []) ∷ [];
}
with_comment (on.Function function) comments = record comments { functions = comments.functions ++ (function, []) ∷ [] }
with_comment (on.EntryPoint index) comments = record comments {
  entry_points = comments.entry_points ++ (index, []) ∷ [];
}
with_comment (on.Constant constant) comments = record comments { constants = comments.constants ++ (constant, []) ∷ [] }
with_comment (on.GlobalVariable variable) comments = record comments {
  global_variables = comments.global_variables ++ (variable, []) ∷ [];
}

-- a draft has what items say besides functions and entry points
pub record IsSaid (s : AllSaid) (d : Draft) : Type 0 where
  pub consistent : AreConsistent s
  pub module_is : d.«module» ≡ drafted s d.«module».functions d.«module».entry_points
  pub flags_are : d.flags ≡ first_of s.flags
  pub capabilities_are : d.capabilities ≡ first_of s.capabilities
  pub resolved_is : d.resolved ≡ first_of s.resolved
  pub special_types_are : d.special_types ≡ first_of s.special_types

-- sections are these functions and entry points
pub record AreFinished (all : List (Head × List PartType)) (functions : List FunctionType) (entry_points : List EntryPointType) : Type 0 where
  pub functions_are : AllZip IsFunctionOf (functions_in all) functions
  pub entry_points_are : AllZip IsEntryPointOf (entry_points_in all) entry_points

-- the last of the sections is open, and those before it are these functions and entry points
pub record IsOpenAfter (all : Sections) (functions : List FunctionType) (entry_points : List EntryPointType) (current : OpenFunction) : Type 0 where
  pub before : List (Head × List PartType)
  pub head : Head
  pub parts : List PartType
  pub sections_are : all ≡ ([], before ++ (head, parts) ∷ [])
  pub finished : AreFinished before functions entry_points
  pub current_is : AreParts head parts current

-- these functions and entry points are the sections, of which the last is open, if there is one
abbrev pub AreSections : Sections → List FunctionType → List EntryPointType → Option OpenFunction → Type 0
AreSections all functions entry_points None = (all ≡ ([], [])) × (functions ≡ []) × (entry_points ≡ [])
AreSections all functions entry_points (Some current) = IsOpenAfter all functions entry_points current

-- `items` are all items that were added to a draft
pub record AreAdded (items : List Item) (d : Draft) : Type 0 where
  pub said : IsSaid (all_said items) d
  pub room_for_functions : length (functions_in (sections items).1) ≤ largest_u32
  pub sections_are : AreSections (sections items) d.«module».functions d.«module».entry_points d.current

-- `items` are all items that were added to a draft, of which no function or entry point is open any more
pub record AreClosed (items : List Item) (d : Draft) : Type 0 where
  pub said : IsSaid (all_said items) d
  pub room_for_functions : length (functions_in (sections items).1) ≤ largest_u32
  pub no_part_before : (sections items).0 ≡ []
  pub finished : AreFinished (sections items).1 d.«module».functions d.«module».entry_points
  pub none_current : d.current ≡ None

-- the last of the sections of `items` is neither a function nor an entry point, as it lacks parts
pub record IsUnfinished (items : List Item) : Type 0 where
  pub before : List (Head × List PartType)
  pub head : Head
  pub parts : List PartType
  pub sections_are : sections items ≡ ([], before ++ (head, parts) ∷ [])
  pub unfinished : ¬ (IsSection head parts)

-- an item that is a statement has no blocks in it, as those are items of their own
abbrev pub SaysNoBlocks : Item → Type 0
SaysNoBlocks (Flags flags) = ⊤
SaysNoBlocks (Capabilities capabilities) = ⊤
SaysNoBlocks Resolved = ⊤
SaysNoBlocks (SpecialTypesItem ray_desc ray_intersection ray_vertex_return) = ⊤
SaysNoBlocks (PredeclaredType ty) = ⊤
SaysNoBlocks (Filter filter) = ⊤
SaysNoBlocks (FilterLeaf leaf) = ⊤
SaysNoBlocks (Comment commented) = ⊤
SaysNoBlocks (Type_ ty) = ⊤
SaysNoBlocks (Constant constant) = ⊤
SaysNoBlocks (Override id) = ⊤
SaysNoBlocks (GlobalVariable variable) = ⊤
SaysNoBlocks (Expression expression) = ⊤
SaysNoBlocks (Function name) = ⊤
SaysNoBlocks (EntryPoint name) = ⊤
SaysNoBlocks (Part part) = PartSaysNoBlocks part
