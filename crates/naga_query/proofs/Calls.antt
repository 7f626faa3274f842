-- Calls of mathematical functions on the first expressions.
use Rattle.std.proofs.Common.{◌≡◌, ◌<◌, ◌∷◌, ◌++◌, ℕ, List, [], Option, Some, None, All, IfSome, length, map, option_to_list, refl, subst, sym}
use Rattle.std.proofs.lemmas.List.{length-map}
use Rattle.std.proofs.lemmas.List.Elements.{All-append, All-cons, All-contains, All-map, All-nil}
use Rattle.naga_arena.proofs.Elements.{all-of}
use Rattle.naga_ir.specs.Handles.{Exists, HandlesAccepted}
use Rattle.naga_ir.specs.ItemReferences.{expression_references, global_lists}
use Rattle.naga_ir.specs.References.{named_item, named_type, operands}
use Rattle.naga_ir.specs.declared.expression.Expression.{Expression}
use Rattle.naga_ir.specs.declared.expression.Expression.TheVariants as form
use Rattle.naga_ir.specs.declared.expression.MathFunction.{MathFunction}
use Rattle.naga_ir.specs.declared.ir.Module.{Module}
use Rattle.naga_ir.specs.declared.reference.Reference.{Reference}
use Rattle.naga_ir.specs.declared.reference.Reference.TheVariants as to
use Rattle.naga_query.specs.Calls.{AreExpressionsBelow}
use Rattle.naga_typing.specs.Resolutions.{IsProperResolution, ResolutionExists}
use Rattle.naga_typing.specs.Typings.{CanResolve, counts_in_sight}
use Rattle.naga_typing.specs.declared.typifier.TypeResolution.TheVariants as resolution

all_operands : (fun : MathFunction) (a : ℕ) (b c d : Option ℕ)
    → expression_references (form.Math fun a b c d) ≡ map to.Expression (a ∷ option_to_list b ++ (option_to_list c ++ option_to_list d)) ++ []
unfolding operands named_type named_item
all_operands fun a b c d = refl

module _ (count : ℕ) where
  abbrev IsBelow : ℕ → Type 0
  IsBelow e = e < count

  optional_below : (o : Option ℕ) → IfSome o IsBelow → All IsBelow (option_to_list o)
  optional_below None below = All-nil IsBelow
  optional_below (Some e) below = All-cons IsBelow e [] below (All-nil IsBelow)

  abbrev IsExpressionBelow : Reference → Type 0
  IsExpressionBelow r = (e : ℕ) × (r ≡ to.Expression e) × (e < count)

  -- a function is called on its arguments, and refers to nothing else
  pub call_below : (fun : MathFunction) (a : ℕ) (b c d : Option ℕ) → IsBelow a → IfSome b IsBelow → IfSome c IsBelow → IfSome d IsBelow
      → AreExpressionsBelow count (expression_references (form.Math fun a b c d))
  call_below fun a b c d first second third fourth =
      let after_first : List ℕ = option_to_list b ++ (option_to_list c ++ option_to_list d) in
      let arguments : All IsBelow (a ∷ after_first) = All-cons IsBelow a after_first first
      (All-append IsBelow (option_to_list b) (option_to_list c ++ option_to_list d) (optional_below b second)
      (All-append IsBelow (option_to_list c) (option_to_list d) (optional_below c third) (optional_below d fourth))) in
      let called : List Reference = map to.Expression (a ∷ after_first) in
      let are : expression_references (form.Math fun a b c d) ≡ called ++ [] = all_operands fun a b c d in
      subst (All IsExpressionBelow) (sym are)
      (All-append IsExpressionBelow called [] (All-map IsExpressionBelow to.Expression (a ∷ after_first) (all-of (λ e. IsExpressionBelow (to.Expression e)) (a ∷ after_first) (λ e names. (e, refl, All-contains IsBelow (a ∷ after_first) e arguments names)))) (All-nil IsExpressionBelow))

-- a call can be resolved by types that exist
pub can_resolve_call : (m : Module) (x : Expression) (types : List ℕ) → HandlesAccepted m → All (λ t. t < length m.types) types
    → AreExpressionsBelow (length types) (expression_references x) → CanResolve m x (map resolution.Handle types)
can_resolve_call m x types handles exist below =
    let InSight : Reference → Type 0 = Exists (counts_in_sight m (length (map resolution.Handle types)) 0) in
    let as_many : length types ≡ length (map resolution.Handle types) = sym (length-map types resolution.Handle) in
    record {
      handles = handles;
      local_variables = 0;
      references = all-of InSight (expression_references x) (λ r names.
          let is = All-contains (λ r. (e : ℕ) × (r ≡ to.Expression e) × (e < length types)) (expression_references x) r below names in
          subst InSight (sym is.1) (subst (λ n. is.0 < n) as_many is.2));
      earlier_exist = All-map (ResolutionExists (global_lists m)) resolution.Handle types exist;
      earlier_proper = All-map IsProperResolution resolution.Handle types (all-of (λ t. IsProperResolution (resolution.Handle t)) types (λ t names. tt));
    }
