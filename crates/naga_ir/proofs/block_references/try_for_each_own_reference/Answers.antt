use Rattle.std.proofs.Common.{sym}
use Rattle.std.specs.Prelude.{Ok}
use Rattle.naga_ir.proofs.StatementLemmas.{checks-along, checks-none, checks-single}
use Rattle.naga_ir.proofs.block_references.try_for_each_own_reference.Given as given
use Rattle.naga_ir.proofs.block_references.try_for_each_own_reference.Goals as goal

pub returns-in-Nothing : goal.returns-in-Nothing
returns-in-Nothing g c =
    let check = given.F-post g c.args.check.now in
    checks-along check _ _ (Ok _) (sym c.in-Nothing.ensures) (checks-none check)

pub returns-in-Emitted : goal.returns-in-Emitted
returns-in-Emitted g c =
    let check = given.F-post g c.args.check.now in
    checks-along check _ _ _ (sym c.in-Emitted.ensures) (checks-single check _ _ c.check.ensures)

pub returns-in-One : goal.returns-in-One
returns-in-One g c =
    let check = given.F-post g c.args.check.now in
    checks-along check _ _ _ (sym c.in-One.ensures) (checks-single check _ _ c.check-in-One.ensures)

pub returns-in-Two : goal.returns-in-Two
returns-in-Two g c =
    let check = given.F-post g c.args.check.now in
    checks-along check _ _ _ (sym c.in-Two.ensures) c.try_for_each_expression.ensures
