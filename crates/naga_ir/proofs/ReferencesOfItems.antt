-- What one item refers to exists if all that is referred to exists.
use Rattle.std.proofs.Common.{◌≡◌, ◌<◌, ℕ, zero, suc, List, [], ◌∷◌, ◌++◌, Option, Some, All, Contains, map, slice_get, refl, sym, subst, arith, option_to_list}
use Rattle.std.specs.List.{flat_map}
use Rattle.std.proofs.lemmas.List.Concat.{flat_map-cons}
use Rattle.std.proofs.lemmas.List.Elements.{All-contains, All-contains_itself, Contains-append_left, Contains-append_right}
use Rattle.std.proofs.lemmas.Option.{same_Some}
use Rattle.naga_ir.specs.Handles.{ExistsGlobally, GlobalReferencesOk, ReferencesPrecede, OrderedOperands, operand, own_operand, part, place_of}
use Rattle.naga_ir.specs.ItemReferences.{GlobalLists, constant_references, expression_references, override_references, type_references}
use Rattle.naga_ir.specs.References.{named_item, named_type, operands}
use Rattle.naga_ir.specs.declared.expression.Expression.{Expression}
use Rattle.naga_ir.specs.declared.ir.Constant.{Constant}
use Rattle.naga_ir.specs.declared.ir.Override.{Override}
use Rattle.naga_ir.specs.declared.reference.Reference.{Reference}
use Rattle.naga_ir.specs.declared.reference.Reference.TheVariants as to
use Rattle.naga_ir.specs.Parts.{parts}
use Rattle.naga_ir.specs.declared.types.«Type».{«Type»}

-- an item of one of some lists is an item of their concatenation
pub within_all : {X A : Type 0} (f : X → List A) (xs : List X) (k : ℕ) (x : X) (a : A) → slice_get xs k ≡ Some x → Contains (f x) a → Contains (flat_map f xs) a
within_all f [] k x a at h = cc
within_all f (y ∷ xs) zero x a at h =
    subst (λ l. Contains l a) (sym (flat_map-cons f y xs)) (Contains-append_left (f y) (flat_map f xs) a (subst (λ z. Contains (f z) a) (sym (same_Some y x at)) h))
within_all f (y ∷ xs) (suc k) x a at h =
    subst (λ l. Contains l a) (sym (flat_map-cons f y xs)) (Contains-append_right (f y) (flat_map f xs) a (within_all f xs k x a at h))

-- the one item of a list is in it
pub only : {A : Type 0} (a : A) → Contains (a ∷ []) a
only a = (0, omega arith, refl)

-- an expression refers to the type that it names
pub type_in : (x : Expression) (t : ℕ) → named_type x ≡ Some t → Contains (expression_references x) (to.Type_ t)
type_in x t e =
    let types : List Reference = map to.Type_ (option_to_list (named_type x)) in
    Contains-append_right (map to.Expression (operands x)) _ (to.Type_ t)
    (Contains-append_left types (option_to_list (named_item x)) (to.Type_ t)
    (subst (λ (o : Option ℕ). Contains (map to.Type_ (option_to_list o)) (to.Type_ t)) (sym e) (only (to.Type_ t))))

-- an expression refers to the item that it names
pub item_in : (x : Expression) (r : Reference) → named_item x ≡ Some r → Contains (expression_references x) r
item_in x r e =
    let types : List Reference = map to.Type_ (option_to_list (named_type x)) in
    Contains-append_right (map to.Expression (operands x)) _ r
    (Contains-append_right types (option_to_list (named_item x)) r
    (subst (λ (o : Option Reference). Contains (option_to_list o) r) (sym e) (only r)))

module _ (g : GlobalLists) (ok : GlobalReferencesOk g) where
  abbrev of_types : List Reference
  of_types = flat_map (λ (t : «Type»). type_references t.inner) g.types

  abbrev of_constants : List Reference
  of_constants = flat_map constant_references g.constants

  abbrev of_overrides : List Reference
  of_overrides = flat_map override_references g.overrides

  abbrev of_expressions : List Reference
  of_expressions = flat_map expression_references g.expressions

  is_there : (r : Reference) → Contains (of_types ++ (of_constants ++ (of_overrides ++ of_expressions))) r → ExistsGlobally g r
  is_there r h = All-contains (ExistsGlobally g) _ r ok.exist h

  pub of_type : (t : ℕ) (x : «Type») (r : Reference) → slice_get g.types t ≡ Some x → Contains (type_references x.inner) r → ExistsGlobally g r
  of_type t x r at h = is_there r (Contains-append_left of_types _ r (within_all (λ (t : «Type»). type_references t.inner) g.types t x r at h))

  pub of_constant : (c : ℕ) (x : Constant) (r : Reference) → slice_get g.constants c ≡ Some x → Contains (constant_references x) r → ExistsGlobally g r
  of_constant c x r at h =
      is_there r (Contains-append_right of_types _ r (Contains-append_left of_constants _ r (within_all constant_references g.constants c x r at h)))

  pub of_override : (o : ℕ) (x : Override) (r : Reference) → slice_get g.overrides o ≡ Some x → Contains (override_references x) r → ExistsGlobally g r
  of_override o x r at h =
      is_there r (Contains-append_right of_types _ r (Contains-append_right of_constants _ r (Contains-append_left of_overrides _ r (within_all override_references g.overrides o x r at h))))

  pub of_expression : (e : ℕ) (x : Expression) (r : Reference) → slice_get g.expressions e ≡ Some x → Contains (expression_references x) r → ExistsGlobally g r
  of_expression e x r at h =
      is_there r (Contains-append_right of_types _ r (Contains-append_right of_constants _ r (Contains-append_right of_overrides of_expressions r (within_all expression_references g.expressions e x r at h))))

  -- all that global expressions refer to exists
  pub all_of_expressions : All (ExistsGlobally g) (flat_map expression_references g.expressions)
  all_of_expressions k d within =
      is_there _ (Contains-append_right of_types _ _ (Contains-append_right of_constants _ _ (Contains-append_right of_overrides of_expressions _ (All-contains_itself of_expressions k d within))))

  -- the types that a type names come before it
  pub parts_come_before : (t : ℕ) (x : «Type») (p : ℕ) → slice_get g.types t ≡ Some x → Contains (parts x.inner) p → p < t
  parts_come_before t x p at stands = ok.back _ _ (part t p x at stands)

  ordered_operand : (s t : Reference) → OrderedOperands g.expressions s t → place_of t < place_of s
  ordered_operand _ _ (own_operand e o x at names) = ok.back _ _ (operand e o x at names)

  -- the operands of global expressions go back
  pub operands_go_back : ReferencesPrecede (OrderedOperands g.expressions)
  operands_go_back = ordered_operand
