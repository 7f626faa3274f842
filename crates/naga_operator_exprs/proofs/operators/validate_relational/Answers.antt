use Rattle.std.proofs.Common.{rules, ◌≡◌, ◌∙◌, ap, Option, Some, None}
use Rattle.std.specs.Prelude.{Err}
use Rattle.naga_ir.specs.declared.types.TypeInner.{TypeInner}
use Rattle.naga_info.specs.Stages.{every_stage}
use Rattle.naga_operator_exprs.proofs.operators.validate_relational.Goals as goal
use Rattle.naga_operator_exprs.specs.Operators.{relational_argument_error}
use Rattle.naga_types.specs.Checks.{ok_unless}

-- a refusal is one whatever is granted otherwise
same_refusal : {A B E : Type 0} (o : Option E) (a : A) (b : B) (e : E) → Err e ≡ ok_unless o a → Err e ≡ ok_unless o b
same_refusal None a b e h = cc h
same_refusal (Some x) a b e h = cc h

pub returns-in_err-check_argument : goal.returns-in_err-check_argument
returns-in_err-check_argument c =
    let is : c.from_residual.result ≡ Err c.in_err-check_argument.field-0.0 = search rules in
    is ∙ same_refusal _ _ every_stage _ c.in_err-check_argument.ensures ∙ ap (λ (inner : TypeInner). ok_unless (relational_argument_error c.args.fun c.args.argument inner) every_stage) c.type_of.ensures.form
