-- What is known while types and global expressions are visited.
use Rattle.std.specs.Prelude.{◌≡◌, ◌⊎◌, ℕ, ◌+◌, ◌<◌, ◌≤◌, min, List, Option, Some, None, Contains, MatchOption, option_map, length, slice_get, vec_capacity}
use Rattle.naga_arena.specs.Numbers.{largest_u32}
use Rattle.naga_ir.specs.Handles.{Exists, NamesType, initialiser_of, module_counts, size_initialiser}
use Rattle.naga_ir.specs.ItemReferences.{GlobalLists, global_lists}
use Rattle.naga_ir.specs.Ranks.{first_waiting, rank_of_expression, rank_of_type, reach}
use Rattle.naga_ir.specs.References.{named_item, operands}
use Rattle.naga_ir.specs.declared.expression.Expression.{Expression}
use Rattle.naga_ir.specs.declared.expression.Expression.TheVariants as form
use Rattle.naga_ir.specs.declared.ir.Constant.{Constant}
use Rattle.naga_ir.specs.declared.ir.Override.{Override}
use Rattle.naga_ir.specs.declared.ir.Module.{Module}
use Rattle.naga_ir.specs.declared.reference.Reference.{Reference}
use Rattle.naga_ir.specs.Parts.{parts, size_override}
use Rattle.naga_ir.specs.declared.types.TypeInner.{TypeInner}
use Rattle.naga_ir.specs.declared.types.«Type».{«Type»}
use Rattle.naga_handles.specs.Faults.{IsOrderFault, forward}
use Rattle.naga_handles.specs.Order.{NamesOrderFault, rank_of, reference_to}
use Rattle.naga_handles.specs.declared.error.InvalidHandleError.{InvalidHandleError}
use Rattle.naga_handles.specs.declared.error.ValidationFault.{ValidationFault}
use Rattle.naga_handles.specs.declared.error.ValidationFault.TheVariants.{OutOfMemory}
use Rattle.naga_handles.specs.declared.order.Item.{Item}
use Rattle.naga_handles.specs.declared.order.Item.TheVariants as item
use Rattle.naga_handles.specs.declared.walk.Walker.{Walker}

-- each of `others` is less than `place`
unfoldable pub AllBefore : ℕ → List ℕ → Type 0
AllBefore place others = (p : ℕ) → Contains others p → p < place

-- one of `others` isn't less than `place`, and `error` names both
abbrev pub NamesLate : (ℕ → Reference) → ℕ → List ℕ → InvalidHandleError → Type 0
NamesLate at place others error = (p : ℕ) × Contains others p × (place ≤ p) × (error ≡ forward (at place) (at p))

-- the initialiser of the constant or override that an expression names
unfoldable pub named_initialiser : GlobalLists → Expression → Option ℕ
named_initialiser g (form.Constant c) = option_map (λ (d : Constant). d.init) (slice_get g.constants c)
named_initialiser g (form.Override o) = initialiser_of (slice_get g.overrides o)
named_initialiser g _ = None

-- the override that sizes the type x at t exists, so does its initialiser, and its type precedes t
pub record SizeOk (m : Module) (t : ℕ) (x : TypeInner) : Type 0 where
  pub exists : (o : ℕ) → size_override x ≡ Some o → o < length m.overrides
  pub type_before : (o : ℕ) (v : Override) → size_override x ≡ Some o → slice_get m.overrides o ≡ Some v → v.ty < t
  pub initialiser_exists : (n : ℕ) → size_initialiser (global_lists m) t ≡ Some n → n < length m.global_expressions

-- the references of the type x at t are right
pub record TypeOk (m : Module) (t : ℕ) (x : TypeInner) : Type 0 where
  pub parts_before : AllBefore t (parts x)
  pub size : SizeOk m t x

-- the item that the expression x at e names exists, and its initialiser precedes e
pub record ItemOk (m : Module) (e : ℕ) (x : Expression) : Type 0 where
  pub exists : (r : Reference) → named_item x ≡ Some r → Exists (module_counts m) r
  pub before : (n : ℕ) → named_initialiser (global_lists m) x ≡ Some n → n < e

-- the references of the expression x at e are right, its type aside
pub record ExpressionOk (m : Module) (e : ℕ) (x : Expression) : Type 0 where
  pub operands_before : AllBefore e (operands x)
  pub item : ItemOk m e x

-- `greatest` is the greatest type that the expressions before c name, if they name any
pub record IsGreatest (g : GlobalLists) (c : ℕ) (greatest : Option ℕ) : Type 0 where
  pub covers : (e u : ℕ) → e < c → NamesType g e u → u < reach greatest
  pub named : (u : ℕ) → greatest ≡ Some u → (e : ℕ) × (e < c) × NamesType g e u

-- entry e of the table is the greatest type that the expressions 0 to e name; there is one for each expression
-- before c, as far as there is room
pub record IsTable (g : GlobalLists) (entries : List (Option ℕ)) (c room : ℕ) : Type 0 where
  pub each : (e : ℕ) (entry : Option ℕ) → slice_get entries e ≡ Some entry → IsGreatest g (e + 1) entry
  pub long : length entries ≡ min c room

-- what the walker knows of the types that the visited expressions name
abbrev pub Names : GlobalLists → Walker → Type 0
Names g w = IsGreatest g w.visited w.greatest × IsTable g w.table.items w.visited (vec_capacity w.table)

-- the references of the expressions before c are right, their types aside
unfoldable pub ExpressionsOk : Module → ℕ → Type 0
ExpressionsOk m c = (e : ℕ) (x : Expression) → e < c → slice_get m.global_expressions e ≡ Some x → ExpressionOk m e x

-- the expressions that the size of t needs name only types before t
unfoldable pub SizeResolvesFirst : Module → ℕ → Type 0
SizeResolvesFirst m t =
    (n e u : ℕ) → size_initialiser (global_lists m) t ≡ Some n → e ≤ n → NamesType (global_lists m) e u → u < t

-- the expressions were visited, and the types before t
pub record Visited (m : Module) (t : ℕ) (w : Walker) : Type 0 where
  pub inside : w.visited ≤ length m.global_expressions
  pub right : ExpressionsOk m w.visited
  pub kept : MatchOption w.kept (w.visited ≡ length m.global_expressions) (IsOrderFault m)
  pub names : Names (global_lists m) w
  pub room : 0 < length m.overrides → length m.global_expressions ≤ vec_capacity w.table
  pub types : (k : ℕ) (x : «Type») → k < t → slice_get m.types k ≡ Some x → TypeOk m k x.inner
  pub sizes : (k : ℕ) → k < t → SizeResolvesFirst m k
  pub few : w.reader.looks ≤ t + largest_u32
  pub looks : w.visited ≡ length m.global_expressions → w.reader.looks ≡ t + length m.global_expressions

-- the order as far as the types before t and the expressions before c
pub record Placed (g : GlobalLists) (order : List Item) (t c : ℕ) : Type 0 where
  pub ranked : (k : ℕ) (i : Item) → slice_get order k ≡ Some i → rank_of g (reference_to i) ≡ k
  pub types : (k : ℕ) → k < t → slice_get order (rank_of_type g k) ≡ Some (item.Type_ k)
  pub expressions : (e : ℕ) → e < c → slice_get order (rank_of_expression g e) ≡ Some (item.Expression e)
  pub long : length order ≡ t + c

-- if the order was right as far as the expressions before `from`, and those up to `to` precede the next type, then it
-- is right as far as those before `to`
abbrev pub PlacesUpTo : List Item → List Item → ℕ → ℕ → Type 0
PlacesUpTo old new from to =
    (g : GlobalLists) (t : ℕ) → Placed g old t from → ((e : ℕ) → from ≤ e → e < to → first_waiting g e ≡ t)
    → Placed g new t to

-- `fault` is that memory was refused, or a fault of a type or global expression
abbrev pub IsNoOrder : Module → ValidationFault → Type 0
IsNoOrder m fault = (fault ≡ OutOfMemory) ⊎ NamesOrderFault m fault
