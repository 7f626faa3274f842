-- A function or entry point while its parts are read.
use Rattle.std.specs.Prelude.{◌≡◌, ℕ, List, Option, None, Some, if◌then◌else◌, length, nat_lt, slice_set, ⊤}
use Rattle.naga_ir.specs.declared.expression.Expression.{Expression}
use Rattle.naga_ir.specs.declared.ir.EntryPoint.{EntryPoint}
use Rattle.naga_ir.specs.declared.ir.Function.{Function}
use Rattle.naga_draft.specs.BodyParts.{IsPlain}
use Rattle.naga_draft.specs.Items.{AllParts, Head, all_parts, entry_point, function}
use Rattle.naga_draft.specs.Modules.{ArePartsConsistent, HasNoEntryParts, IsEntryPointOf, IsFunctionOf, first_of, function_of}
use Rattle.naga_draft.specs.declared.functions.EntryParts.{EntryParts}
use Rattle.naga_draft.specs.declared.functions.Finished.{Finished}
use Rattle.naga_draft.specs.declared.functions.Finished.TheVariants as finished
use Rattle.naga_draft.specs.declared.functions.OpenFunction.{OpenFunction}
use Rattle.naga_draft.specs.declared.item.Part.{Part}
use Rattle.naga_draft.specs.declared.item.Part.TheVariants as part
use Rattle.naga_draft.specs.OpenBlocks.{AreRead}

-- the name that a head gives to its function, which the function of an entry point has not
abbrev pub name_of : Head → Option (List ℕ)
name_of (function name) = name
name_of (entry_point name) = None

-- what an entry point has besides its function, of its name and of what its parts say
abbrev pub entry_parts_of : List ℕ → AllParts → EntryParts
entry_parts_of name s = record {
  name = name;
  stage = first_of s.stages;
  workgroup_size = first_of s.workgroup_size;
  workgroup_sizes = first_of s.workgroup_sizes;
  payload = first_of s.task_payloads;
  mesh = first_of s.mesh_outputs;
}

-- an entry point after a head has what its parts say, and a function has nothing of that kind
abbrev pub HasEntryParts : Head → AllParts → Option EntryParts → Type 0
HasEntryParts (function name) s entry = (entry ≡ None) × HasNoEntryParts s
HasEntryParts (entry_point name) s entry = entry ≡ Some (entry_parts_of name s)

-- what was begun by `head` has what its parts say
pub record HasParts (head : Head) (s : AllParts) (current : OpenFunction) : Type 0 where
  pub consistent : ArePartsConsistent s
  pub function_is : current.function ≡ function_of (name_of head) s current.function.body
  pub blocks : AreRead s.marks current.blocks
  pub entry : HasEntryParts head s current.entry

-- `parts` are all parts after `head` that were added to what it began
abbrev pub AreParts : Head → List Part → OpenFunction → Type 0
AreParts head parts current = HasParts head (all_parts parts) current

-- `head` and `parts` are a function or an entry point
abbrev pub IsSection : Head → List Part → Type 0
IsSection (function name) parts = (f : Function) × IsFunctionOf (name, parts) f
IsSection (entry_point name) parts = (e : EntryPoint) × IsEntryPointOf (name, parts) e

-- what was finished is the function or entry point of `head` and `parts`
abbrev pub IsFinished : Head → List Part → Finished → Type 0
IsFinished (function name) parts (finished.Function f) = IsFunctionOf (name, parts) f
IsFinished (function name) parts (finished.EntryPoint e) = ⊥
IsFinished (entry_point name) parts (finished.Function f) = ⊥
IsFinished (entry_point name) parts (finished.EntryPoint e) = IsEntryPointOf (name, parts) e

-- expressions with `expression` in a place, if they have one there
abbrev pub expressions_with : ℕ → Expression → List Expression → List Expression
expressions_with place expression all = if nat_lt place (length all) then slice_set all place expression else all

-- what is read of a function, with another expression in a place, if it has one there
abbrev pub with_expression : ℕ → Expression → OpenFunction → OpenFunction
with_expression place expression current = record current {
  function = record (current.function) { expressions = expressions_with place expression current.function.expressions };
}

-- a part that is a statement has no blocks in it, as those are parts of their own
abbrev pub SaysNoBlocks : Part → Type 0
SaysNoBlocks (part.Argument argument) = ⊤
SaysNoBlocks (part.LocalVariable variable) = ⊤
SaysNoBlocks (part.Result result) = ⊤
SaysNoBlocks (part.NamedExpression named name) = ⊤
SaysNoBlocks (part.FilterLeaf leaf) = ⊤
SaysNoBlocks (part.WorkgroupSizes sizes) = ⊤
SaysNoBlocks (part.Stage stage) = ⊤
SaysNoBlocks (part.WorkgroupSize size) = ⊤
SaysNoBlocks (part.TaskPayload variable) = ⊤
SaysNoBlocks (part.MeshOutput info) = ⊤
SaysNoBlocks (part.Expression expression) = ⊤
SaysNoBlocks (part.Mark mark) = IsPlain mark
