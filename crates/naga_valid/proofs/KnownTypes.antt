-- The types of the expressions of accepted modules and functions exist.
use Rattle.std.proofs.Common.{◌≡◌, ◌≤◌, ◌++◌, ◌∷◌, [], ℕ, zero, suc, List, Option, Some, None, Ok, All, length, slice_get, take, refl, sym, subst, arith}
use Rattle.std.specs.Option.{option_map}
use Rattle.std.proofs.lemmas.List.{length-take-le, take_all}
use Rattle.std.proofs.lemmas.List.Elements.{All-append, All-cons, All-nil, All-weaker}
use Rattle.std.proofs.lemmas.Option.{same_Some}
use Rattle.naga_arena.proofs.InOrder.{found_at}
use Rattle.naga_arena.specs.InOrder.{AllAcceptedInOrder, FollowInOrder, RuleInOrder}
use Rattle.naga_info.proofs.FunctionTypes.{function_type_lawful}
use Rattle.naga_info.specs.FunctionTypes.{AreFunctionTypes, type_in_order}
use Rattle.naga_ir.specs.Handles.{Exists, FunctionReferencesOk, HandlesAccepted}
use Rattle.naga_ir.specs.ItemReferences.{expression_references, global_lists}
use Rattle.naga_ir.specs.declared.expression.Expression.{Expression}
use Rattle.naga_ir.specs.declared.ir.Function.{Function}
use Rattle.naga_ir.specs.declared.ir.Module.{Module}
use Rattle.naga_typing.proofs.CanResolve.{function_expression_in_sight, global_expression_in_sight}
use Rattle.naga_typing.specs.PlainLaws.{types_exist}
use Rattle.naga_typing.specs.Resolutions.{IsProperResolution, ResolutionExists, TypesExist}
use Rattle.naga_typing.specs.Typings.{AreResolved, CanResolve, IsLawful, Resolves, counts_in_sight, resolve_in_order}
use Rattle.naga_typing.specs.declared.typifier.ResolveError.{ResolveError}
use Rattle.naga_typing.specs.declared.typifier.TypeResolution.{TypeResolution}
use Rattle.naga_valid.proofs.MoreStages.{take-one-more}

module _ (m : Module) (handles : HandlesAccepted m) (items : List Expression) (locals : ℕ)
    (in_sight : (n : ℕ) (x : Expression) → slice_get items n ≡ Some x → All (Exists (counts_in_sight m n locals)) (expression_references x))
    (rule : RuleInOrder Expression TypeResolution ResolveError)
    (lawful : (before : List TypeResolution) (n : ℕ) (x : Expression) (r : TypeResolution) → CanResolve m x before → rule before n x ≡ Ok r → ResolutionExists (global_lists m) r × IsProperResolution r) where
  -- these types exist and are proper
  record Known (types : List TypeResolution) : Type 0 where
    exist : All (ResolutionExists (global_lists m)) types
    proper : All IsProperResolution types

  one_known : (types : List TypeResolution) (n : ℕ) (x : Expression) (r : TypeResolution) → length types ≡ n → Known types → slice_get items n ≡ Some x → rule types n x ≡ Ok r → Known (types ++ r ∷ [])
  one_known types n x r as_many known at is =
      let can : CanResolve m x types = record {
        handles = handles;
        local_variables = locals;
        references = subst (λ k. All (Exists (counts_in_sight m k locals)) (expression_references x)) (sym as_many) (in_sight n x at);
        earlier_exist = known.exist;
        earlier_proper = known.proper;
      } in
      let good = lawful types n x r can is in
      record {
        exist = All-append (ResolutionExists (global_lists m)) types (r ∷ []) known.exist (All-cons (ResolutionExists (global_lists m)) r [] good.0 (All-nil (ResolutionExists (global_lists m))));
        proper = All-append IsProperResolution types (r ∷ []) known.proper (All-cons IsProperResolution r [] good.1 (All-nil IsProperResolution));
      }

  with_item : (types : List TypeResolution) (n : ℕ) (r : TypeResolution) → n ≤ length types → Known (take n types)
      → (found : Option Expression) → slice_get items n ≡ found → option_map (rule (take n types) n) found ≡ Some (Ok r) → Known (take n types ++ r ∷ [])
  with_item types n r within before None at is = cc is
  with_item types n r within before (Some x) at is = one_known (take n types) n x r (length-take-le n types within) before at (same_Some _ _ is)

  first_known : (types : List TypeResolution) → FollowInOrder rule items types → (n : ℕ) → n ≤ length types → Known (take n types)
  first_known types follow zero within = record { exist = All-nil (ResolutionExists (global_lists m)); proper = All-nil IsProperResolution }
  first_known types follow (suc n) within =
      let r = found_at types n (omega (arith, within)) in
      let before = first_known types follow n (omega (arith, within)) in
      subst Known (sym (take-one-more types n r.0 r.1)) (with_item types n r.0 (omega (arith, within)) before (slice_get items n) refl (follow n r.0 r.1))

  all_known : (types : List TypeResolution) → AllAcceptedInOrder rule items types → All (TypesExist m.types) types
  all_known types all =
      let whole = subst Known (take_all (length types) types (omega arith)) (first_known types all.follow (length types) (omega arith)) in
      All-weaker (ResolutionExists (global_lists m)) (TypesExist m.types) (types_exist (global_lists m)) types whole.exist

-- the types of global expressions exist
pub module_types_exist : (resolves : Resolves) → IsLawful resolves → (m : Module) → HandlesAccepted m → (types : List TypeResolution) → AreResolved resolves m types → All (TypesExist m.types) types
module_types_exist resolves laws m handles =
    all_known m handles m.global_expressions 0 (global_expression_in_sight m handles) (resolve_in_order resolves m)
    (λ before n x r can is. (laws.exist m x before r can is, laws.proper m x before r can is))

-- the types of a function's expressions exist
pub function_types_exist : (resolves : Resolves) → IsLawful resolves → (m : Module) → HandlesAccepted m → (f : Function) → FunctionReferencesOk m f
    → (types : List TypeResolution) → AreFunctionTypes resolves m f types → All (TypesExist m.types) types
function_types_exist resolves laws m handles f ok =
    all_known m handles f.expressions (length f.local_variables) (function_expression_in_sight m f ok.in_expressions) (type_in_order resolves m f)
    (λ before n x r can is. function_type_lawful m f ok resolves laws x before r can is)
