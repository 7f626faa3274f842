use Rattle.naga_query.proofs.Acceptance.{if_ok, right_handles}
use Rattle.naga_query.proofs.answers.modules.check_handles.Goals as goal

pub returns : goal.returns
returns c = if_ok _ _ _ _ _ c.validate_module_handles.ensures.result (λ _ h. right_handles c.args.module.now h)
