-- Resolving expressions in their order, for any lawful typing: of the module, and of a function.
use Rattle.std.proofs.Common.{◌≡◌, ℕ, List, [], ◌∷◌, ◌++◌, Some, Ok, All, length, slice_get, refl, sym, subst, ap, ◌∙◌, length-append}
use Rattle.std.specs.List.{enumerate_from}
use Rattle.std.proofs.lemmas.List.Elements.{All-append, All-cons, All-nil}
use Rattle.naga_ir.specs.Handles.{ExpressionReferencesOk, HandlesAccepted}
use Rattle.naga_ir.specs.ItemReferences.{global_lists}
use Rattle.naga_ir.specs.declared.expression.Expression.{Expression}
use Rattle.naga_ir.specs.declared.ir.Function.{Function}
use Rattle.naga_ir.specs.declared.ir.Module.{Module}
use Rattle.naga_typing.proofs.CanResolve.{function_expression_in_sight, global_expression_in_sight}
use Rattle.naga_typing.proofs.Iteration.{Iterating, accepts_all, all_counted, begin, next_index, next_item, one_more}
use Rattle.naga_typing.specs.Resolutions.{IsProperResolution, ResolutionExists}
use Rattle.naga_typing.specs.Typings.{CanResolve, IsLawful, Resolves}
use Rattle.naga_typing.specs.declared.typifier.TypeResolution.{TypeResolution}

module _ (m : Module) (items : List Expression) where
  -- the expressions so far have types that exist and are proper, and these are left
  pub record Typed (earlier : List TypeResolution) (left : List (ℕ × Expression)) : Type 0 where
    pub iterating : Iterating accepts_all items (length earlier) left
    pub exist : All (ResolutionExists (global_lists m)) earlier
    pub proper : All IsProperResolution earlier

  pub none_typed : (earlier : List TypeResolution) (left : List (ℕ × Expression)) → earlier ≡ [] → left ≡ enumerate_from 0 items → Typed earlier left
  none_typed earlier left none all = subst (λ l. Typed l left) (sym none) (record {
    iterating = begin accepts_all items left all;
    exist = All-nil (ResolutionExists (global_lists m));
    proper = All-nil IsProperResolution;
  })

  -- no expression is left, so each has a type
  pub all_typed : (earlier : List TypeResolution) (left : List (ℕ × Expression)) → Typed earlier left → left ≡ [] → length earlier ≡ length items
  all_typed earlier left r none = all_counted accepts_all items (length earlier) left r.iterating none

  -- of the expressions that are left, the next
  module _ (earlier : List TypeResolution) (left : List (ℕ × Expression)) (n : ℕ) (x : Expression) (more : List (ℕ × Expression)) (r : Typed earlier left) (e : left ≡ (n, x) ∷ more) where
    -- the index of the next expression is the number of the expressions so far
    pub next_place : n ≡ length earlier
    next_place = next_index accepts_all items (length earlier) left n x more r.iterating e

    -- the next expression is the one whose index is the number of the expressions so far
    pub next_there : slice_get items (length earlier) ≡ Some x
    next_there = ap (slice_get items) (sym next_place) ∙ next_item accepts_all items (length earlier) left n x more r.iterating e

    -- with the type of the next expression one more expression has a type
    pub one_typed : (found : TypeResolution) (now : List TypeResolution) → ResolutionExists (global_lists m) found → IsProperResolution found → now ≡ earlier ++ found ∷ [] → Typed now more
    one_typed found now exists proper same = subst (λ l. Typed l more) (sym same) (record {
      iterating = subst (λ k. Iterating accepts_all items k more) (sym (length-append earlier (found ∷ []))) (one_more accepts_all items (length earlier) left n x more r.iterating e refl);
      exist =
          All-append (ResolutionExists (global_lists m)) earlier (found ∷ []) r.exist
          (All-cons (ResolutionExists (global_lists m)) found [] exists (All-nil (ResolutionExists (global_lists m))));
      proper = All-append IsProperResolution earlier (found ∷ []) r.proper (All-cons IsProperResolution found [] proper (All-nil IsProperResolution));
    })

module _ (m : Module) where
  -- `Typed` of the global expressions of a module
  abbrev pub Resolved : List TypeResolution → List (ℕ × Expression) → Type 0
  Resolved earlier left = Typed m m.global_expressions earlier left

  pub none_resolved : (earlier : List TypeResolution) (left : List (ℕ × Expression)) → earlier ≡ [] → left ≡ enumerate_from 0 m.global_expressions → Resolved earlier left
  none_resolved = none_typed m m.global_expressions

  pub all_resolved : (earlier : List TypeResolution) (left : List (ℕ × Expression)) → Resolved earlier left → left ≡ [] → length earlier ≡ length m.global_expressions
  all_resolved = all_typed m m.global_expressions

  module _ (handles : HandlesAccepted m) (earlier : List TypeResolution) (left : List (ℕ × Expression)) (n : ℕ) (x : Expression) (more : List (ℕ × Expression)) (r : Resolved earlier left) (e : left ≡ (n, x) ∷ more) where
    -- the next one comes with the number of the expressions so far
    pub index : n ≡ length earlier
    index = next_place m m.global_expressions earlier left n x more r e

    -- the index of the next global expression is the number that it comes with
    pub there : slice_get m.global_expressions n ≡ Some x
    there = ap (slice_get m.global_expressions) index ∙ next_there m m.global_expressions earlier left n x more r e

    -- the next global expression can be resolved
    pub can_resolve_next : CanResolve m x earlier
    can_resolve_next = record {
      handles = handles;
      local_variables = 0;
      references = global_expression_in_sight m handles (length earlier) x (next_there m m.global_expressions earlier left n x more r e);
      earlier_exist = r.exist;
      earlier_proper = r.proper;
    }

    -- with the type of the next global expression one more has a type
    pub one_resolved : (resolves : Resolves) → IsLawful resolves → (found : TypeResolution) (now : List TypeResolution) → resolves m x earlier ≡ Ok found → now ≡ earlier ++ found ∷ [] → Resolved now more
    one_resolved resolves laws found now is same =
        one_typed m m.global_expressions earlier left n x more r e found now (laws.exist m x earlier found can_resolve_next is) (laws.proper m x earlier found can_resolve_next is) same

  -- the next expression of a function can be resolved
  pub can_resolve_in_function : (f : Function) → HandlesAccepted m → ExpressionReferencesOk m f
      → (earlier : List TypeResolution) (left : List (ℕ × Expression)) (n : ℕ) (x : Expression) (more : List (ℕ × Expression))
      → Typed m f.expressions earlier left → left ≡ (n, x) ∷ more → CanResolve m x earlier
  can_resolve_in_function f handles ok earlier left n x more r e = record {
    handles = handles;
    local_variables = length f.local_variables;
    references = function_expression_in_sight m f ok (length earlier) x (next_there m f.expressions earlier left n x more r e);
    earlier_exist = r.exist;
    earlier_proper = r.proper;
  }
