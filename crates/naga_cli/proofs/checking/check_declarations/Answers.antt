use Rattle.std.proofs.Common.{Err, Ok, refl}
use Rattle.naga_cli.proofs.Acceptance.{declarations_as, laid_out}
use Rattle.naga_cli.specs.Findings.{by_declaration}
use Rattle.naga_cli.proofs.checking.check_declarations.Goals as goal

pub returns-in-Ok : goal.returns-in-Ok
returns-in-Ok c =
    let before = c.args.info.now.lists in
    let after = c.validate_declarations.new.mod_info.lists in
    record {
      typing = c.args.validator.typing;
      before = before;
      after = after;
      the_module = c.requires.accepted;
      rest = declarations_as c.args.subject.now c.args.validator before after (Ok tt) c.requires.settings c.in-Ok.ensures;
      laid_out = laid_out _ _ _ _ _ c.requires.accepted;
    }

pub returns-in_ok-refusal-in-Err : goal.returns-in_ok-refusal-in-Err
returns-in_ok-refusal-in-Err c =
    let before = c.args.info.now.lists in
    let after = c.validate_declarations.new.mod_info.lists in
    by_declaration c.args.validator.typing c.args.validator.infos before after c.in-Err.error refl c.requires.accepted
    (declarations_as c.args.subject.now c.args.validator before after (Err c.in-Err.error) c.requires.settings c.in-Err.ensures)
    c.in_ok-refusal-in-Err.ensures
