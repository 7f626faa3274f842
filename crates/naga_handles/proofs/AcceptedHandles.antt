-- When the handles of a whole module are right, and that nothing is wrong with it then.
use Rattle.std.proofs.Common.{◌≡◌, ◌<◌, ℕ, List, [], ◌∷◌, ◌++◌, Option, Some, None, All, Contains, map, slice_get, length, subst, sym, refl, arith, option_to_list}
use Rattle.std.specs.List.{flat_map}
use Rattle.std.proofs.lemmas.List.Elements.{All-append, All-contains, Contains-append_left, Contains-append_right}
use Rattle.naga_ir.specs.Handles.{Counts, Exists, ReferencesPrecede, HandlesAccepted, MemberExists, NamesType, OrderedInModule, OrderedReference, SizesResolveFirst, among_globals, parent_filter, calls_function, function_counts, in_function, initialiser_at, initialiser_of, module_counts, place_of, size_initialiser, sized_by}
use Rattle.naga_ir.specs.ItemReferences.{all_functions, body_references, constant_references, expression_references, function_references, global_lists, local_references, named_references, other_references, override_references, signature_references, type_references}
use Rattle.naga_ir.specs.References.{operands}
use Rattle.naga_ir.specs.Parts.{parts, size_override}
use Rattle.naga_ir.specs.declared.expression.Expression.{Expression}
use Rattle.naga_ir.specs.declared.ir.EntryPoint.{EntryPoint}
use Rattle.naga_ir.specs.declared.ir.Override.{Override}
use Rattle.naga_ir.specs.declared.ir.Function.{Function}
use Rattle.naga_ir.specs.declared.ir.Module.{Module}
use Rattle.naga_ir.specs.declared.reference.Reference.{Reference}
use Rattle.naga_ir.specs.declared.reference.Reference.TheVariants as to
use Rattle.naga_ir.specs.declared.types.«Type».{«Type»}
use Rattle.naga_ir.proofs.ReferencesOfItems.{item_in, only, type_in, within_all}
use Rattle.naga_handles.specs.Faults.{IsFault, IsHandleFault, IsOrderFault, PlainReference, VisitedReference, forward_in_module, in_entry_point, initialiser, invalid, item, missing_member, no_entry_point, not_back, size_not_first, not_there, not_visited, of_constant, of_override, on_walk, other, plain_references, size, type_}
use Rattle.naga_handles.specs.Faults as faults
use Rattle.naga_handles.specs.declared.error.InvalidHandleError.{InvalidHandleError}
use Rattle.naga_handles.specs.declared.error.ValidationFault.{ValidationFault}
use Rattle.naga_arena.proofs.Elements.{all-left, all-right, contains-map}
use Rattle.naga_handles.proofs.ListItems.{all-flat, all-places, all-unflat}
use Rattle.naga_handles.specs.steps.OtherItems.{OtherItemsOk}

-- if all else is right, types and global expressions decide whether a module is accepted
pub all_accepted : (m : Module)
    → All (Exists (module_counts m)) (flat_map (λ (t : «Type»). type_references t.inner) m.types)
    → All (Exists (module_counts m)) (flat_map expression_references m.global_expressions)
    → ReferencesPrecede (OrderedReference (global_lists m)) → SizesResolveFirst (global_lists m) → OtherItemsOk m → HandlesAccepted m
all_accepted m types expressions globals_back sizes h = record {
  exist = record {
    globals =
        All-append (Exists (module_counts m)) (flat_map (λ (t : «Type»). type_references t.inner) m.types) _ types
        (All-append (Exists (module_counts m)) (flat_map constant_references m.constants) _ h.constants
        (All-append (Exists (module_counts m)) (flat_map override_references m.overrides) _ h.overrides expressions));
    filters = h.filters;
    others = h.others;
    in_functions = h.in_functions;
    documented_members = h.documented_members;
    documented_entry_points = h.documented_entry_points;
  };
  back = all_back;
  sizes = sizes;
}
  where
    all_back : (s t : Reference) → OrderedInModule m s t → place_of t < place_of s
    all_back s t (among_globals _ _ pair) = globals_back s t pair
    all_back s t (in_function f _ _ among pair) = h.operands_back f s t among pair
    all_back s t (calls_function i j f at stands) = h.calls_back i j f at stands
    all_back s t (parent_filter i j n at e) = h.filters_back i j n at e

-- what holds of all that a function refers to holds of all that need only be there
pub all-plain : (P : Reference → Type 0) (f : Function) → All P (function_references f) → All P (plain_references f)
all-plain P f all =
    let expressions : List Reference = flat_map expression_references f.expressions in
    let after_signature = all-right P (signature_references f) _ all in
    let after_locals = all-right P (local_references f) _ after_signature in
    All-append P (signature_references f) _ (all-left P (signature_references f) _ all)
    (All-append P (local_references f) _ (all-left P (local_references f) _ after_signature)
    (All-append P (flat_map named_references f.expressions) (body_references f)
    (all-flat P named_references f.expressions
    (all-places (λ (x : Expression). All P (named_references x)) f.expressions
    (λ e x at. all-right P (map to.Expression (operands x)) (named_references x) (all-unflat P expression_references f.expressions e x at (all-left P expressions _ after_locals)))))
    (all-right P expressions _ after_locals)))

-- the override that gives a size its initialiser
record SizedBy (overrides : List Override) (n : ℕ) : Type 0 where
  place : ℕ
  value : Override
  at : slice_get overrides place ≡ Some value
  begins : value.init ≡ Some n

sized-of : (overrides : List Override) (o n : ℕ) (v : Option Override) → slice_get overrides o ≡ v → initialiser_of v ≡ Some n → SizedBy overrides n
sized-of overrides o n None at is = cc
sized-of overrides o n (Some v) at is = record { place = o; value = v; at = at; begins = is }

sized-at : (overrides : List Override) (n : ℕ) (o : Option ℕ) → initialiser_at overrides o ≡ Some n → SizedBy overrides n
sized-at overrides n None is = cc
sized-at overrides n (Some o) is = sized-of overrides o n (slice_get overrides o) refl is

sized : (overrides : List Override) (n : ℕ) (x : Option «Type») → sized_by overrides x ≡ Some n → SizedBy overrides n
sized overrides n None is = cc
sized overrides n (Some x) is = sized-at overrides n (size_override x.inner) is

initialiser-sized : (m : Module) (t n : ℕ) → size_initialiser (global_lists m) t ≡ Some n → SizedBy m.overrides n
unfolding size_initialiser
initialiser-sized m t n is = sized m.overrides n (slice_get m.types t) is

-- a module whose handles are right
module _ (m : Module) (h : HandlesAccepted m) where
  abbrev There : Reference → Type 0
  There = Exists (module_counts m)

  of_types : All There (flat_map (λ (t : «Type»). type_references t.inner) m.types)
  of_types = all-left There (flat_map (λ (t : «Type»). type_references t.inner) m.types) _ h.exist.globals

  after_types : All There (flat_map constant_references m.constants ++ (flat_map override_references m.overrides ++ flat_map expression_references m.global_expressions))
  after_types = all-right There (flat_map (λ (t : «Type»). type_references t.inner) m.types) _ h.exist.globals

  of_constants : All There (flat_map constant_references m.constants)
  of_constants = all-left There (flat_map constant_references m.constants) _ after_types

  of_overrides : All There (flat_map override_references m.overrides)
  of_overrides = all-left There (flat_map override_references m.overrides) _ (all-right There (flat_map constant_references m.constants) _ after_types)

  of_expressions : All There (flat_map expression_references m.global_expressions)
  of_expressions =
      all-right There (flat_map override_references m.overrides) (flat_map expression_references m.global_expressions)
      (all-right There (flat_map constant_references m.constants) _ after_types)

  in_expression : (e : ℕ) (x : Expression) (r : Reference) → slice_get m.global_expressions e ≡ Some x → Contains (expression_references x) r → There r
  in_expression e x r at stands = All-contains There (flat_map expression_references m.global_expressions) r of_expressions (within_all expression_references m.global_expressions e x r at stands)

  -- what types and global expressions refer to exists
  visited-there : (r : Reference) → VisitedReference m r → There r
  visited-there r (size t o x at is) =
      let in_type = Contains-append_right (map to.Type_ (parts x.inner)) (map to.Override (option_to_list (size_override x.inner))) (to.Override o)
      (subst (λ (s : Option ℕ). Contains (map to.Override (option_to_list s)) (to.Override o)) (sym is) (only (to.Override o))) in
      All-contains There (flat_map (λ (t : «Type»). type_references t.inner) m.types) (to.Override o) of_types
      (within_all (λ (t : «Type»). type_references t.inner) m.types t x (to.Override o) at in_type)
  visited-there r (initialiser t n is) =
      let s = initialiser-sized m t n is in
      let v = s.value in
      let in_override = Contains-append_right (to.Type_ v.ty ∷ []) (map to.Expression (option_to_list v.init)) (to.Expression n)
      (subst (λ (o : Option ℕ). Contains (map to.Expression (option_to_list o)) (to.Expression n)) (sym s.begins) (only (to.Expression n))) in
      All-contains There (flat_map override_references m.overrides) (to.Expression n) of_overrides
      (within_all override_references m.overrides s.place v (to.Expression n) s.at in_override)
  visited-there r (item e x _ at is) = in_expression e x r at (item_in x r is)
  visited-there r (type_ e u names free) = type_there names
    where
      type_there : NamesType (global_lists m) e u → There (to.Type_ u)
      type_there (x, at, is) = in_expression e x (to.Type_ u) at (type_in x u is)

  in_all : (f : Function) (r : Reference) → Contains (all_functions m) f → Contains (plain_references f) r → Exists (function_counts m f) r
  in_all f r among stands =
      All-contains (Exists (function_counts m f)) (plain_references f) r
      (all-plain (Exists (function_counts m f)) f (All-contains (λ (g : Function). All (Exists (function_counts m g)) (function_references g)) (all_functions m) f h.exist.in_functions among)) stands

  -- what all else refers to exists
  plain-exists : (n : Counts) (r : Reference) → PlainReference m n r → Exists n r
  plain-exists n r (of_constant _ among) = All-contains There (flat_map constant_references m.constants) r of_constants among
  plain-exists n r (of_override _ among) = All-contains There (flat_map override_references m.overrides) r of_overrides among
  plain-exists n r (other _ among) = All-contains There (other_references m) r h.exist.others among
  plain-exists n r (faults.in_function f _ among stands free) =
      in_all f r (Contains-append_left m.functions (map (λ (p : EntryPoint). p.function) m.entry_points) f among) stands
  plain-exists n r (in_entry_point p _ among stands) =
      in_all p.function r (Contains-append_right m.functions (map (λ (q : EntryPoint). q.function) m.entry_points) p.function (contains-map (λ (q : EntryPoint). q.function) m.entry_points p among)) stands

  -- nothing is wrong with types and global expressions
  walk-fault-breaks : (e : InvalidHandleError) → IsOrderFault m e → ⊥
  walk-fault-breaks e (not_back s t pair le) = let lt : place_of t < place_of s = h.back s t (among_globals s t pair) in omega (arith, lt, le)
  walk-fault-breaks e (size_not_first t n k u is le names past) = let lt : u < t = h.sizes t n k u is le names in omega (arith, lt, past)
  walk-fault-breaks e (not_visited r v lacks) = lacks (visited-there r v)

  -- nothing is wrong with any handle
  handle-fault-breaks : (e : InvalidHandleError) → IsHandleFault m e → ⊥
  handle-fault-breaks e (on_walk _ w) = walk-fault-breaks e w
  handle-fault-breaks e (forward_in_module s t pair le) = let lt : place_of t < place_of s = h.back s t pair in omega (arith, lt, le)
  handle-fault-breaks e (not_there n r p lacks) = lacks (plain-exists n r p)
  handle-fault-breaks e (no_entry_point place lines among past) =
      let lt : place < length m.entry_points =
      All-contains (λ (c : ℕ × List (List ℕ)). c.0 < length m.entry_points) m.doc_comments.entry_points (place, lines) h.exist.documented_entry_points among in
      omega (arith, lt, past)

  -- nothing is wrong at all
  nothing-wrong : (fault : ValidationFault) → IsFault m fault → ⊥
  nothing-wrong fault (invalid e w) = handle-fault-breaks e w
  nothing-wrong fault (missing_member t k lines x among at lacks) =
      lacks (All-contains (λ (c : (ℕ × ℕ) × List (List ℕ)). MemberExists m.types c.0) m.doc_comments.struct_members ((t, k), lines) h.exist.documented_members among)

-- if a module has a fault, its handles aren't right
pub fault_breaks : (m : Module) (fault : ValidationFault) → IsFault m fault → HandlesAccepted m → ⊥
fault_breaks m fault wrong h = nothing-wrong m h fault wrong
