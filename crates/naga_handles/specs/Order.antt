-- When the types and global expressions of a module can be visited, and in which order.
use Rattle.std.specs.Prelude.{◌≡◌, ℕ, ◌+◌, ◌<◌, List, ◌++◌, All, Some, length, slice_get}
use Rattle.std.specs.List.{flat_map}
use Rattle.naga_ir.specs.Handles.{Exists, ReferencesPrecede, OrderedReference, SizesResolveFirst, module_counts, size_initialiser}
use Rattle.naga_ir.specs.ItemReferences.{GlobalLists, expression_references, global_lists, type_references}
use Rattle.naga_ir.specs.Ranks.{DependsOn, rank_of_expression, rank_of_type}
use Rattle.naga_ir.specs.declared.ir.Module.{Module}
use Rattle.naga_ir.specs.declared.reference.Reference.{Reference}
use Rattle.naga_ir.specs.declared.reference.Reference.TheVariants as to
use Rattle.naga_ir.specs.declared.types.«Type».{«Type»}
use Rattle.naga_handles.specs.Faults.{IsOrderFault}
use Rattle.naga_handles.specs.declared.error.ValidationFault.{ValidationFault}
use Rattle.naga_handles.specs.declared.error.ValidationFault.TheVariants.{Invalid, MissingMember, OutOfMemory}
use Rattle.naga_handles.specs.declared.order.Item.{Item}
use Rattle.naga_handles.specs.declared.order.Item.TheVariants as item

-- what types and global expressions refer to exists, and so do the initialisers that size types; references go back,
-- and the types that size a type precede it
pub record CanBeOrdered (m : Module) : Type 0 where
  pub exist : All (Exists (module_counts m))
      (flat_map (λ (t : «Type»). type_references t.inner) m.types
      ++ flat_map expression_references m.global_expressions)
  pub initialisers : (t n : ℕ) → size_initialiser (global_lists m) t ≡ Some n → n < length m.global_expressions
  pub back : ReferencesPrecede (OrderedReference (global_lists m))
  pub sizes : SizesResolveFirst (global_lists m)

-- the index in the order of what a reference names, if it is a type or a global expression
abbrev pub rank_of : GlobalLists → Reference → ℕ
rank_of g (to.Type_ t) = rank_of_type g t
rank_of g (to.Expression e) = rank_of_expression g e
rank_of _ _ = 0

-- whatever is needed has a lesser rank
abbrev pub RanksFall : GlobalLists → Type 0
RanksFall g = (s t : Reference) → DependsOn g s t → rank_of g t < rank_of g s

-- an item as a reference to it
abbrev pub reference_to : Item → Reference
reference_to (item.Type_ t) = to.Type_ t
reference_to (item.Expression e) = to.Expression e

-- the index of each item in the order is its rank, and all types and global expressions are in it
pub record IsOrder (g : GlobalLists) (order : List Item) : Type 0 where
  pub ranked : (k : ℕ) (i : Item) → slice_get order k ≡ Some i → rank_of g (reference_to i) ≡ k
  pub types : (t : ℕ) → t < length g.types → slice_get order (rank_of_type g t) ≡ Some (item.Type_ t)
  pub expressions : (e : ℕ) → e < length g.expressions
      → slice_get order (rank_of_expression g e) ≡ Some (item.Expression e)
  pub long : length order ≡ length g.types + length g.expressions

-- the fault is one of types and global expressions
abbrev pub NamesOrderFault : Module → ValidationFault → Type 0
NamesOrderFault m (Invalid e) = IsOrderFault m e
NamesOrderFault m (MissingMember t name) = ⊥
NamesOrderFault m OutOfMemory = ⊥
