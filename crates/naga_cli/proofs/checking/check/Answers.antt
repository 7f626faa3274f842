use Rattle.naga_cli.proofs.Acceptance.{refused_as}
use Rattle.naga_cli.proofs.checking.check.Goals as goal

pub returns : goal.returns
returns c =
    refused_as c.args.coverage c.args.subject.now c.with_typing-validator.result _ c.in-Err.error.inner
    c.as_inner.result.now c.in_ok-refusal-in-Err.refusal c.with_typing-validator.ensures c.as_inner.ensures
    c.in-Err.ensures.result c.in_ok-refusal-in-Err.ensures
