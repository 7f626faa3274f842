-- What follows when all items were visited, and what a fault contradicts.
use Rattle.std.proofs.Common.{◌≡◌, ◌<◌, ◌≤◌, ℕ, zero, suc, List, [], ◌∷◌, ◌++◌, Option, Some, option_map, All, Contains, length, map, slice_get, refl, sym, ap, subst, ◌∙◌, arith, option_to_list}
use Rattle.std.specs.List.{flat_map}
use Rattle.std.proofs.lemmas.List.Elements.{All-append, All-contains, Contains-append_left, Contains-append_right}
use Rattle.std.proofs.lemmas.Option.{slice_get_within}
use Rattle.naga_handles.proofs.ReferenceLists.{all_in, all_named, all_of_option, all_within}
use Rattle.naga_ir.proofs.ReferencesOfItems.{item_in, only, type_in, within_all}
use Rattle.naga_ir.specs.Handles.{Exists, NamesType, OrderedReference, SizesResolveFirst, constant, initialiser_of, module_counts, operand, override, part, place_of, size_type}
use Rattle.naga_ir.specs.ItemReferences.{expression_references, global_lists, type_references}
use Rattle.naga_ir.specs.References.{named_item, named_type, operands}
use Rattle.naga_ir.specs.declared.expression.Expression.{Expression}
use Rattle.naga_ir.specs.declared.ir.Constant.{Constant}
use Rattle.naga_ir.specs.declared.expression.Expression.TheVariants as form
use Rattle.naga_ir.specs.declared.ir.Module.{Module}
use Rattle.naga_ir.specs.declared.reference.Reference.{Reference}
use Rattle.naga_ir.specs.declared.reference.Reference.TheVariants as to
use Rattle.naga_ir.specs.Parts.{parts, size_override}
use Rattle.naga_ir.specs.declared.types.«Type».{«Type»}
use Rattle.naga_handles.specs.Faults.{IsOrderFault, VisitedReference, initialiser, item, not_back, size_not_first, not_visited, size, type_}
use Rattle.naga_ir.specs.Ranks.{reach}
use Rattle.naga_handles.specs.Order.{CanBeOrdered}
use Rattle.naga_handles.specs.declared.walk.Walker.{Walker}
use Rattle.naga_handles.specs.steps.VisitState.{AllBefore, ExpressionOk, ExpressionsOk, SizeResolvesFirst, TypeOk, Visited, named_initialiser}
use Rattle.naga_handles.specs.declared.error.InvalidHandleError.{InvalidHandleError}
use Rattle.naga_handles.proofs.OrderFaults.{size_within}

before_of : (place : ℕ) (others : List ℕ) (p : ℕ) → AllBefore place others → Contains others p → p < place
unfolding AllBefore
before_of place others p all h = all p h

module _ (m : Module) (types : (t : ℕ) (x : «Type») → slice_get m.types t ≡ Some x → TypeOk m t x.inner)
    (expressions : (e : ℕ) (x : Expression) → slice_get m.global_expressions e ≡ Some x → ExpressionOk m e x)
    (names : (e u : ℕ) → NamesType (global_lists m) e u → u < length m.types) where
  abbrev There : Reference → Type 0
  There = Exists (module_counts m)

  of_type : (t : ℕ) (x : «Type») → slice_get m.types t ≡ Some x → All There (type_references x.inner)
  of_type t x at =
      let stands = types t x at in
      let there = slice_get_within m.types t x at in
      All-append There (map to.Type_ (parts x.inner)) (map to.Override (option_to_list (size_override x.inner)))
      (all_in There to.Type_ (parts x.inner) (λ p h. let before = before_of t (parts x.inner) p stands.parts_before h in omega (arith, before, there)))
      (all_named There to.Override (size_override x.inner) (λ o h. stands.size.exists o h))

  of_expression : (e : ℕ) (x : Expression) → slice_get m.global_expressions e ≡ Some x → All There (expression_references x)
  of_expression e x at =
      let stands = expressions e x at in
      let there = slice_get_within m.global_expressions e x at in
      All-append There (map to.Expression (operands x)) (map to.Type_ (option_to_list (named_type x)) ++ option_to_list (named_item x))
      (all_in There to.Expression (operands x) (λ o h. let before = before_of e (operands x) o stands.operands_before h in omega (arith, before, there)))
      (All-append There (map to.Type_ (option_to_list (named_type x))) (option_to_list (named_item x))
      (all_named There to.Type_ (named_type x) (λ u h. names e u (x, at, h)))
      (all_of_option There (named_item x) stands.item.exists))

  begins : (e n : ℕ) (x : Expression) → slice_get m.global_expressions e ≡ Some x → named_initialiser (global_lists m) x ≡ Some n → n < e
  begins e n x at h = (expressions e x at).item.before n h

  back : (s t : Reference) → OrderedReference (global_lists m) s t → place_of t < place_of s
  unfolding named_initialiser
  back _ _ (part t u x at h) = before_of t (parts x.inner) u (types t x at).parts_before h
  back _ _ (size_type t o x v at sized stands) = (types t x at).size.type_before o v sized stands
  back _ _ (operand e o x at h) = before_of e (operands x) o (expressions e x at).operands_before h
  back _ _ (constant e c d at stands) = begins e d.init (form.Constant c) at (ap (option_map (λ (v : Constant). v.init)) stands)
  back _ _ (override e o n v at stands h) = begins e n (form.Override o) at (ap initialiser_of stands ∙ h)

  all_right : SizesResolveFirst (global_lists m) → ((t : ℕ) → t < length m.types → (x : «Type») × (slice_get m.types t ≡ Some x)) → CanBeOrdered m
  all_right sizes there = record {
    exist =
        All-append There (flat_map (λ (t : «Type»). type_references t.inner) m.types) (flat_map expression_references m.global_expressions)
        (all_within There (λ (t : «Type»). type_references t.inner) m.types of_type)
        (all_within There expression_references m.global_expressions of_expression);
    initialisers = λ t n h. let x = there t (size_within (global_lists m) t n h) in (types t x.0 x.1).size.initialiser_exists n h;
    back = back;
    sizes = sizes;
  }

at_place : {X : Type 0} (xs : List X) (k : ℕ) → k < length xs → (x : X) × (slice_get xs k ≡ Some x)
at_place [] k h = absurd (omega (arith, h))
at_place (x ∷ xs) zero h = (x, refl)
at_place (x ∷ xs) (suc k) h = at_place xs k (omega (arith, h))

-- if all were visited, and the greatest type that an expression names exists, all can be ordered
pub can_be_ordered : (m : Module) (w : Walker) → Visited m (length m.types) w → length m.global_expressions ≤ w.visited → reach w.greatest ≤ length m.types → CanBeOrdered m
unfolding ExpressionsOk SizeResolvesFirst
can_be_ordered m w v all there =
    all_right m (λ t x at. v.types t x (slice_get_within m.types t x at) at) (λ e x at. v.right e x (reached e x at) at)
    (λ e u named. omega (arith, v.names.0.covers e u (reached e named.0 named.1) named, there))
    (λ t n e u begins l named. v.sizes t (size_within (global_lists m) t n begins) n e u begins l named) (at_place m.types)
  where
    reached : (e : ℕ) (x : Expression) → slice_get m.global_expressions e ≡ Some x → e < w.visited
    reached e x at = omega (arith, slice_get_within m.global_expressions e x at, all)

module _ (m : Module) (a : CanBeOrdered m) where
  abbrev of_types : List Reference
  of_types = flat_map (λ (t : «Type»). type_references t.inner) m.types

  -- what types and global expressions refer to exists
  is_there : (r : Reference) → Contains (of_types ++ flat_map expression_references m.global_expressions) r → Exists (module_counts m) r
  is_there r h = All-contains (Exists (module_counts m)) _ r a.exist h

  expression_there : (e : ℕ) (x : Expression) (r : Reference) → slice_get m.global_expressions e ≡ Some x → Contains (expression_references x) r → Exists (module_counts m) r
  expression_there e x r at h = is_there r (Contains-append_right of_types _ r (within_all expression_references m.global_expressions e x r at h))

  -- the type that a global expression names exists
  pub named_there : (e u : ℕ) (x : Expression) → slice_get m.global_expressions e ≡ Some x → named_type x ≡ Some u → u < length m.types
  named_there e u x at h = expression_there e x (to.Type_ u) at (type_in x u h)

  visited_there : (r : Reference) → VisitedReference m r → Exists (module_counts m) r
  visited_there _ (size t o x at sized) =
      let among : Contains (map to.Override (option_to_list (size_override x.inner))) (to.Override o) =
      subst (λ (s : Option ℕ). Contains (map to.Override (option_to_list s)) (to.Override o)) (sym sized) (only (to.Override o)) in
      is_there _ (Contains-append_left of_types _ _ (within_all (λ (t : «Type»). type_references t.inner) m.types t x (to.Override o) at
      (Contains-append_right (map to.Type_ (parts x.inner)) _ (to.Override o) among)))
  visited_there _ (initialiser t n h) = a.initialisers t n h
  visited_there _ (item e x r at named) = expression_there e x r at (item_in x r named)
  visited_there _ (type_ e u names unsized) = named_there e u names.0 names.1 names.2

  -- if there is a fault, types and global expressions can't be ordered
  pub fault_breaks : (e : InvalidHandleError) → IsOrderFault m e → ⊥
  fault_breaks _ (not_back s t pair late) = let back = a.back s t pair in absurd (omega (arith, back, late))
  fault_breaks _ (size_not_first t n e u begins l names late) = let named_before = a.sizes t n e u begins l names in absurd (omega (arith, named_before, late))
  fault_breaks _ (not_visited r visited absent) = absent (visited_there r visited)
