use Rattle.std.proofs.Common.{◌≡◌, IsOk, inl, inr, ⊎_elim, refl}
use Rattle.std.proofs.lemmas.List.Elements.{All-append}
use Rattle.std.proofs.lemmas.Result.{MatchResult-weaker, err_from_is_err_and}
use Rattle.naga_arena.specs.Span.{inner_of}
use Rattle.naga_ir.specs.Handles.{OrderedOperands, OrderedReference, among_globals, operand, own_operand}
use Rattle.naga_ir.specs.ItemReferences.{global_lists}
use Rattle.naga_ir.specs.declared.ir.Module.{Module}
use Rattle.naga_ir.specs.declared.reference.Reference.{Reference}
use Rattle.naga_valid.specs.Values.{constant_result, override_result, results_of, value_results}
use Rattle.naga_valid.specs.declared.error.ValidationError.TheVariants.{OutOfMemory}
use Rattle.naga_valid.specs.steps.KnownValues.{IsFirstValueError}
use Rattle.naga_valid.proofs.FirstErrors.{error-in-first, error-in-second}
use Rattle.naga_valid.proofs.values.validate_values.Goals as goal

-- an operand of a global expression is a reference among the global lists
operand-globally : (m : Module) (s t : Reference) → OrderedOperands m.global_expressions s t → OrderedReference (global_lists m) s t
operand-globally m s t (own_operand e o x at names) = operand e o x at names

pub from_arena-requires : goal.from_arena-requires
from_arena-requires g c s t pair = c.requires.handles.back s t (among_globals s t (operand-globally c.args.module.now s t pair))

pub returns-in_err-validate_expressions : goal.returns-in_err-validate_expressions
returns-in_err-validate_expressions g c =
    let ctx = c.args.ctx in
    let info = c.args.mod_info.now.lists in
    let m = c.args.module.now in
    let kinds = c.in_ok-kinds.kinds in
    let p = err_from_is_err_and c.from_residual-in_err-validate_expressions.result c.from_residual-in_err-validate_expressions.ensures.1 in
    rw (p.1, p.2) (inr (value_results ctx.capabilities ctx.overrides_resolved m info kinds, (kinds, c.in_ok-kinds.ensures.kinds, refl), error-in-first _ _ _ c.in_err-validate_expressions.ensures))

pub returns-in_err-validate_constants : goal.returns-in_err-validate_constants
returns-in_err-validate_constants g c =
    let ctx = c.args.ctx in
    let info = c.args.mod_info.now.lists in
    let m = c.args.module.now in
    let kinds = c.in_ok-kinds.kinds in
    let p = err_from_is_err_and c.from_residual-in_err-validate_constants.result c.from_residual-in_err-validate_constants.ensures.1 in
    rw (p.1, p.2) (⊎_elim
    (λ (o : inner_of c.in_err-validate_constants.field-0.0 ≡ OutOfMemory). inl o)
    (λ (first : IsFirstValueError (results_of (constant_result m info kinds) m.constants) (inner_of c.in_err-validate_constants.field-0.0)).
    inr (value_results ctx.capabilities ctx.overrides_resolved m info kinds, (kinds, c.in_ok-kinds.ensures.kinds, refl), error-in-second _ _ _ c.in_ok-validate_expressions.ensures (error-in-first _ _ _ first)))
    c.in_err-validate_constants.ensures)

pub returns : goal.returns
returns g c =
    let ctx = c.args.ctx in
    let info = c.args.mod_info.now.lists in
    let m = c.args.module.now in
    let kinds = c.in_ok-kinds.kinds in
    let results = value_results ctx.capabilities ctx.overrides_resolved m info kinds in
    MatchResult-weaker c.validate_overrides.result c.validate_overrides.ensures
    (λ u ok. (results, (kinds, c.in_ok-kinds.ensures.kinds, refl), All-append IsOk _ _ c.in_ok-validate_expressions.ensures (All-append IsOk _ _ c.in_ok-validate_constants.ensures ok)))
    (λ e why. ⊎_elim
    (λ (o : inner_of e ≡ OutOfMemory). inl o)
    (λ (first : IsFirstValueError (results_of (override_result ctx.overrides_resolved m info) m.overrides) (inner_of e)).
    inr (results, (kinds, c.in_ok-kinds.ensures.kinds, refl), error-in-second _ _ _ c.in_ok-validate_expressions.ensures (error-in-second _ _ _ c.in_ok-validate_constants.ensures first)))
    why)
