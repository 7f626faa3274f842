use Rattle.std.proofs.Common.{◌≡◌, ◌∙◌, ◌<◌, ℕ, true, IsTrue, List, None, Option, Some, ap, drop, get_or, length, map, refl, slice_get, sym, subst, arith}
use Rattle.std.proofs.lemmas.List.Folds.{list_any_at}
use Rattle.std.proofs.lemmas.Option.{get_or_from_slice_get, slice_get_within}
use Rattle.std.specs.List.{enumerate_from}
use Rattle.std.specs.Option.{IfSome, is_some, option_map}
use Rattle.naga_arena.proofs.Elements.{all_at}
use Rattle.naga_interface.specs.Functions.{has_initialiser, has_initialisers, local_variable_checks, local_variable_error}
use Rattle.naga_interface.specs.Surroundings.{known, surroundings}
use Rattle.naga_interface.specs.declared.error.FunctionDeclarationError.{FunctionDeclarationError}
use Rattle.naga_interface.specs.declared.error.FunctionDeclarationError.TheVariants.{LocalVariable as LocalVariable_}
use Rattle.naga_interface.specs.steps.KnownFunctions.{HaveKinds}
use Rattle.naga_ir.specs.declared.ir.Function.{Function}
use Rattle.naga_ir.specs.declared.ir.LocalVariable.{LocalVariable}
use Rattle.naga_types.specs.Checks.{first}
use Rattle.naga_typing.specs.declared.expression_kind.ExpressionKind.{ExpressionKind}
use Rattle.naga_interface.proofs.Conditions.{broken, kept, unless}
use Rattle.naga_interface.proofs.FirstErrors.{passed, refused}
use Rattle.naga_interface.proofs.function.check_local_variables.Goals as goal

-- an initialiser of a local variable has a kind
has_kind : (f : Function) (kinds : List ExpressionKind) (i : ℕ) (v : LocalVariable) → HaveKinds f kinds → slice_get f.local_variables i ≡ Some v → IfSome v.init (λ e. e < length f.expressions)
    → IfSome v.init (λ e. e < length kinds)
has_kind f kinds i v have at exists = by_init v.init refl exists
  where
    by_init : (o : Option ℕ) → v.init ≡ o → IfSome o (λ e. e < length f.expressions) → IfSome o (λ e. e < length kinds)
    by_init None is exists = exists
    by_init (Some e) is exists =
        let within = slice_get_within f.local_variables i v at in
        let here : has_initialiser (get_or f.local_variables i v) ≡ true = ap has_initialiser (get_or_from_slice_get f.local_variables i v v at) ∙ ap is_some is in
        let some : IsTrue (has_initialisers f) = list_any_at has_initialiser f.local_variables i v within here in
        let same = have some in
        omega arith

pub validate_local_variable-requires-clause-has_kind : goal.validate_local_variable-requires-clause-has_kind
validate_local_variable-requires-clause-has_kind c =
    let f = c.args.function.now in
    let v : LocalVariable = c.index-variable.result.now in
    let at : slice_get f.local_variables c.new-handle.result ≡ Some v = c.index-variable.ensures in
    has_kind f c.args.init.kinds.now c.new-handle.result v c.requires.kinds at
    (all_at (λ (w : LocalVariable). IfSome w.init (λ e. e < length f.expressions)) f.local_variables c.new-handle.result v c.requires.can.initialisers at)

pub returns-in-Err : goal.returns-in-Err
returns-in-Err c =
    let variables = c.args.function.now.local_variables in
    let i = c.new-handle.result in
    let v : LocalVariable = c.index-variable.result.now in
    let at : slice_get variables i ≡ Some v = c.index-variable.ensures in
    let error_of = local_variable_error (surroundings c.args.ctx) (known c.args.init) in
    let so_far : first (map error_of (enumerate_from i (drop i variables))) ≡ first (map error_of (enumerate_from 0 variables)) =
    subst (λ (n : ℕ). first (map error_of (enumerate_from n (drop n variables))) ≡ first (map error_of (enumerate_from 0 variables))) (sym c.new-handle.ensures) c.loop-index.invariant in
    let here : error_of (i, v) ≡ Some (LocalVariable_ i c.in-Err.source) =
    ap (option_map (LocalVariable_ i)) (broken (first (local_variable_checks (surroundings c.args.ctx) (known c.args.init) v)) c.in-Err.source c.in-Err.ensures) in
    sym (ap (λ (o : Option FunctionDeclarationError). unless o)
    (refused error_of variables i v (slice_get_within variables i v at) (sym (get_or_from_slice_get variables i v v at)) so_far (LocalVariable_ i c.in-Err.source) here))

pub loop-index-preserved : goal.loop-index-preserved
loop-index-preserved c =
    let variables = c.args.function.now.local_variables in
    let i = c.loop-index.index in
    let v : LocalVariable = c.index-variable.result.now in
    let at : slice_get variables i ≡ Some v = subst (λ (n : ℕ). slice_get variables n ≡ Some v) c.new-handle.ensures c.index-variable.ensures in
    let error_of = local_variable_error (surroundings c.args.ctx) (known c.args.init) in
    let none : first (local_variable_checks (surroundings c.args.ctx) (known c.args.init) v) ≡ None = kept (first (local_variable_checks (surroundings c.args.ctx) (known c.args.init) v)) c.in_default.ensures in
    passed error_of variables i v (slice_get_within variables i v at) (sym (get_or_from_slice_get variables i v v at)) c.loop-index.invariant (ap (option_map (LocalVariable_ i)) none)
