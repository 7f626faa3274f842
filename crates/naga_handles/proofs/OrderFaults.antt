-- What shows that something is wrong with types and global expressions, and what their items begin with.
use Rattle.std.proofs.Common.{◌≡◌, ◌<◌, ◌≤◌, ◌⊎◌, inl, inr, ℕ, Option, Some, None, option_map, Result, Ok, Err, MatchResult, IfErr, length, slice_get, refl, sym, ap, subst, ◌∙◌}
use Rattle.std.proofs.lemmas.Bool.{cases_lt}
use Rattle.std.proofs.lemmas.Option.{same_Some, slice_get_past}
use Rattle.naga_ir.specs.Handles.{Counts, Exists, OrderedReference, constant, initialiser_at, initialiser_of, module_counts, operand, override, part, size_initialiser, size_type, sized_by}
use Rattle.naga_ir.specs.ItemReferences.{GlobalLists, global_lists}
use Rattle.naga_ir.specs.References.{named_item, operands}
use Rattle.naga_ir.specs.declared.expression.Expression.{Expression}
use Rattle.naga_ir.specs.declared.expression.Expression.TheVariants as form
use Rattle.naga_ir.specs.declared.ir.Constant.{Constant}
use Rattle.naga_ir.specs.declared.ir.Override.{Override}
use Rattle.naga_ir.specs.declared.ir.Module.{Module}
use Rattle.naga_ir.specs.declared.reference.Reference.{Reference}
use Rattle.naga_ir.specs.declared.reference.Reference.TheVariants as to
use Rattle.naga_ir.specs.Parts.{parts, size_override}
use Rattle.naga_ir.specs.declared.types.TypeInner.{TypeInner}
use Rattle.naga_ir.specs.declared.types.«Type».{«Type»}
use Rattle.naga_handles.specs.Faults.{IsOrderFault, VisitedReference, forward, missing, not_back, not_visited}
use Rattle.naga_handles.specs.steps.VisitState.{ItemOk, NamesLate, SizeOk, named_initialiser}
use Rattle.naga_handles.specs.declared.error.InvalidHandleError.{InvalidHandleError}

-- what isn't there is a fault
pub not_there : (m : Module) (n : Counts) (r : Reference) (result : Result (Unit {0}) InvalidHandleError)
    → n ≡ module_counts m → MatchResult result (λ _. Exists n r) (λ e. (Exists n r → ⊥) × (e ≡ missing r)) → VisitedReference m r → IfErr result (IsOrderFault m)
not_there m n r (Ok _) same h there = tt
not_there m n r (Err e) same h there =
    let absent : Exists (module_counts m) r → ⊥ = λ x. h.0 (subst (λ k. Exists k r) (sym same) x) in
    subst (IsOrderFault m) (sym h.1) (not_visited r there absent)

-- a part that doesn't come before its type is one
pub late_part : (m : Module) (t : ℕ) (x : «Type») (e : InvalidHandleError) → slice_get m.types t ≡ Some x → NamesLate to.Type_ t (parts x.inner) e → IsOrderFault m e
late_part m t x e at late = subst (IsOrderFault m) (sym late.3) (not_back _ _ (part t late.0 x at late.1) late.2)

-- an operand that doesn't come before its expression is one
pub late_operand : (m : Module) (e : ℕ) (x : Expression) (f : InvalidHandleError) → slice_get m.global_expressions e ≡ Some x → NamesLate to.Expression e (operands x) f → IsOrderFault m f
late_operand m e x f at late = subst (IsOrderFault m) (sym late.3) (not_back _ _ (operand e late.0 x at late.1) late.2)

-- what the item that an expression names begins with has to come before the expression
pub value : (g : GlobalLists) (e n : ℕ) (x : Expression) → slice_get g.expressions e ≡ Some x → named_initialiser g x ≡ Some n → OrderedReference g (to.Expression e) (to.Expression n)
unfolding named_initialiser
value g e n (form.Constant c) at begins = by_constant (slice_get g.constants c) refl begins
  where
    by_constant : (d : Option Constant) → slice_get g.constants c ≡ d → option_map (λ (v : Constant). v.init) d ≡ Some n → OrderedReference g (to.Expression e) (to.Expression n)
    by_constant None stands h = absurd (cc)
    by_constant (Some d) stands h = subst (λ (k : ℕ). OrderedReference g (to.Expression e) (to.Expression k)) (same_Some d.init n h) (constant e c d at stands)
value g e n (form.Override o) at begins = by_override (slice_get g.overrides o) refl begins
  where
    by_override : (v : Option Override) → slice_get g.overrides o ≡ v → initialiser_of v ≡ Some n → OrderedReference g (to.Expression e) (to.Expression n)
    by_override None stands h = absurd (cc)
    by_override (Some v) stands h = override e o n v at stands h
value g e n _ at begins = cc

-- an expression that is to begin so has an item that is named
pub constant_named : (c : ℕ) → named_item (form.Constant c) ≡ Some (to.Constant c)
unfolding named_item
constant_named c = refl

pub override_named : (o : ℕ) → named_item (form.Override o) ≡ Some (to.Override o)
unfolding named_item
override_named o = refl

-- an expression that names no item names none that begins with an expression
pub nothing_named : (g : GlobalLists) (x : Expression) → named_item x ≡ None → named_initialiser g x ≡ None
unfolding named_item named_initialiser
nothing_named g (form.Constant c) h = absurd (cc)
nothing_named g (form.Override o) h = absurd (cc)
nothing_named g _ h = refl

-- a type that no override sizes has no such initialiser
pub size_none : (g : GlobalLists) (t : ℕ) (x : «Type») → slice_get g.types t ≡ Some x → size_override x.inner ≡ None → size_initialiser g t ≡ None
unfolding size_initialiser
size_none g t x at none = ap (sized_by g.overrides) at ∙ ap (initialiser_at g.overrides) none

-- one that an override sizes has what the override begins with
pub size_some : (g : GlobalLists) (t o : ℕ) (x : «Type») (v : Override) → slice_get g.types t ≡ Some x → size_override x.inner ≡ Some o → slice_get g.overrides o ≡ Some v → size_initialiser g t ≡ v.init
unfolding size_initialiser
size_some g t o x v at some stands = ap (sized_by g.overrides) at ∙ ap (initialiser_at g.overrides) some ∙ ap initialiser_of stands

-- only types that exist have one
pub size_within : (g : GlobalLists) (t n : ℕ) → size_initialiser g t ≡ Some n → t < length g.types
unfolding size_initialiser
size_within g t n h = by_place (cases_lt t (length g.types))
  where
    by_place : (t < length g.types) ⊎ (length g.types ≤ t) → t < length g.types
    by_place (inl l) = l
    by_place (inr l) = let e : sized_by g.overrides (slice_get g.types t) ≡ None = ap (sized_by g.overrides) (slice_get_past g.types t l) in absurd (cc)

module _ (m : Module) (t : ℕ) (x : «Type») (inner : TypeInner) (at : slice_get m.types t ≡ Some x) (is : x.inner ≡ inner) where
  -- if no override sizes a type, its size is right
  pub no_size : size_override inner ≡ None → SizeOk m t inner
  no_size none = record {
    exists = λ o some. absurd (cc);
    type_before = λ o v some stands. absurd (cc);
    initialiser_exists = λ n begins. let nothing = size_none (global_lists m) t x at (ap size_override is ∙ none) in absurd (cc);
  }

  module _ (o : ℕ) (v : Override) (some : size_override inner ≡ Some o) (stands : slice_get m.overrides o ≡ Some v) where
    -- an override whose type doesn't come before the type that it sizes is a fault
    pub late_size : t ≤ v.ty → IsOrderFault m (forward (to.Type_ t) (to.Type_ v.ty))
    late_size late = not_back _ _ (size_type t o x v at (ap size_override is ∙ some) stands) late

    -- if one does, what has to be checked
    pub size_stands : o < length m.overrides → v.ty < t → ((n : ℕ) → v.init ≡ Some n → n < length m.global_expressions) → SizeOk m t inner
    size_stands there before begins = record {
      exists = λ p named. let same : o ≡ p = same_Some o p (sym some ∙ named) in subst (λ k. k < length m.overrides) same there;
      type_before = λ p w named is_w.
          let same : o ≡ p = same_Some o p (sym some ∙ named) in
          let one : v ≡ w = same_Some v w (sym stands ∙ ap (slice_get m.overrides) same ∙ is_w) in
          subst (λ (k : Override). k.ty < t) one before;
      initialiser_exists = λ n h. begins n (sym (size_some (global_lists m) t o x v at (ap size_override is ∙ some) stands) ∙ h);
    }

module _ (m : Module) (e : ℕ) (x : Expression) (at : slice_get m.global_expressions e ≡ Some x) where
  -- if an expression names no item, nothing has to be checked
  pub no_item : named_item x ≡ None → ItemOk m e x
  no_item none = record {
    exists = λ r named. absurd (cc);
    before = λ n begins. let nothing = nothing_named (global_lists m) x none in absurd (cc);
  }

  -- if it names one, what has to be checked
  pub item_stands : (r : Reference) → named_item x ≡ Some r → Exists (module_counts m) r → ((n : ℕ) → named_initialiser (global_lists m) x ≡ Some n → n < e) → ItemOk m e x
  item_stands r named there before = record {
    exists = λ s other. subst (Exists (module_counts m)) (same_Some r s (sym named ∙ other)) there;
    before = before;
  }

  -- the constant that it names exists if the item does
  pub constant_there : (r : Reference) → named_item x ≡ Some r → Exists (module_counts m) r → (c : ℕ) → x ≡ form.Constant c → c < length m.constants
  constant_there r named there c is =
      let same : r ≡ to.Constant c = same_Some r (to.Constant c) (sym named ∙ ap named_item is ∙ constant_named c) in
      subst (Exists (module_counts m)) same there

  -- the override that it names exists if the item does
  pub override_there : (r : Reference) → named_item x ≡ Some r → Exists (module_counts m) r → (o : ℕ) → x ≡ form.Override o → o < length m.overrides
  override_there r named there o is =
      let same : r ≡ to.Override o = same_Some r (to.Override o) (sym named ∙ ap named_item is ∙ override_named o) in
      subst (Exists (module_counts m)) same there

  -- what it begins with comes before it, or that is a fault
  pub late_value : (n : ℕ) → named_initialiser (global_lists m) x ≡ Some n → e ≤ n → IsOrderFault m (forward (to.Expression e) (to.Expression n))
  late_value n begins late = not_back _ _ (value (global_lists m) e n x at begins) late
