use Rattle.std.proofs.Common.{rules, ◌≡◌, Ok}
use Rattle.naga_valid.proofs.DeclarationAnswers.{one_more_interface}
use Rattle.naga_valid.proofs.driver.Validator.validate_each_interface.Goals as goal

pub loop-index-preserved : goal.loop-index-preserved
loop-index-preserved g c =
    let result = c.check_interface.result in
    let accepted : result ≡ Ok tt = search rules in
    record {
      kept = one_more_interface c.args.self.now c.args.module.now c.args.mod_info.now.lists c.loop-index.index result c.loop-index.invariant.kept c.check_interface.ensures.answer accepted;
      noted = c.in_default.ensures.noted;
    }
