use Rattle.std.proofs.Common.{rules, ◌≡◌, List, [], ◌∷◌, ap, subst, sym}
use Rattle.std.specs.Prelude.{Ok, Err, option_map}
use Rattle.naga_ir.specs.FirstError.{ChecksEach}
use Rattle.naga_ir.specs.Operands.{present}
use Rattle.naga_ir.specs.declared.ir.SpecialTypes.{SpecialTypes}
use Rattle.naga_ir.specs.declared.reference.Reference.{Reference}
use Rattle.naga_ir.specs.declared.reference.Reference.TheVariants as to
use Rattle.naga_ir.proofs.StatementLemmas.{checks-along}
use Rattle.naga_handles.specs.steps.ItemChecks.{IsResult, checks}
use Rattle.naga_handles.specs.steps.Checks.{of_function}
use Rattle.naga_handles.proofs.CheckLemmas.{checks-called-one, references-before, references-then, three-present}
use Rattle.naga_handles.proofs.handles.validate_special_types.Goals as goal

-- the special types that have names of their own
abbrev named : SpecialTypes → List Reference
named t = present (option_map to.Type_ t.ray_desc ∷ option_map to.Type_ t.ray_intersection ∷ option_map to.Type_ t.ray_vertex_return ∷ [])

pub returns-in_err-check_all : goal.returns-in_err-check_all
returns-in_err-check_all c =
    let n = c.args.scope.now.counts in
    let s = of_function c.args.scope.now.caller in
    let t = c.args.special_types.now in
    let is : c.from_residual.result ≡ Err c.in_err-check_all.field-0.0 = search rules in
    let here : ChecksEach IsResult (checks n s (named t)) (Err c.in_err-check_all.field-0.0) = search rules in
    subst (ChecksEach IsResult _) (sym is)
    (checks-along IsResult _ _ (Err _) (ap (checks n s) (three-present to.Type_ t.ray_desc t.ray_intersection t.ray_vertex_return t.others)) (references-before n s _ _ _ here))

pub returns : goal.returns
returns c =
    let n = c.args.scope.now.counts in
    let s = of_function c.args.scope.now.caller in
    let t = c.args.special_types.now in
    let here : ChecksEach IsResult (checks n s (named t)) (Ok tt) = search rules in
    checks-along IsResult _ _ _ (ap (checks n s) (three-present to.Type_ t.ray_desc t.ray_intersection t.ray_vertex_return t.others))
    (references-then n s _ _ _ here (checks-called-one n s to.Type_ t.others c.as_slice.ensures (λ y r k. search rules) c.try_each.ensures))
