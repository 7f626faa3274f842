use Rattle.std.proofs.Common.{refl}
use Rattle.naga_cli.proofs.Acceptance.{functions_as, laid_out}
use Rattle.naga_cli.specs.Findings.{by_function}
use Rattle.naga_cli.proofs.checking.check_functions.Goals as goal

pub returns-in-Ok : goal.returns-in-Ok
returns-in-Ok c = record {
  typing = c.args.validator.typing;
  before = _;
  after = _;
  the_module = c.requires.accepted;
  rest = functions_as c.args.subject.now c.args.validator _ _ _ c.requires.settings c.in-Ok.ensures;
  laid_out = laid_out _ _ _ _ _ c.requires.accepted;
}

pub returns-in_ok-refusal-in-Err : goal.returns-in_ok-refusal-in-Err
returns-in_ok-refusal-in-Err c =
    by_function c.args.validator.infos _ _ c.in-Err.error refl c.requires.accepted
    (functions_as c.args.subject.now c.args.validator _ _ _ c.requires.settings c.in-Err.ensures) c.in_ok-refusal-in-Err.ensures
