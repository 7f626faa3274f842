use Rattle.std.proofs.Common.{◌≡◌, ◌+◌, arith, length, refl}
use Rattle.naga_c.specs.Functions.{before_short, before_written}
use Rattle.naga_c.proofs.RowLaws.{with_written}
use Rattle.naga_c.proofs.functions.report_refused.Goals as goal

pub returns-then-stages-all : goal.returns-then-stages-all
returns-then-stages-all c = before_short _ _ c.in-Expression.is (omega arith) (refl, c.refused_at.ensures) refl

pub returns : goal.returns
returns c =
    let lists = c.args.info.now.lists in
    let before = c.accepted_before-functions.result in
    let sum : before.0 + before.1 ≡ length lists.functions + length lists.entry_points = omega arith in
    before_written _ _ c.in-Expression.is (omega arith) c.write_stages.ensures (with_written c.refused_at.result _ (before.0 + before.1) (length lists.functions + length lists.entry_points) c.refused_at.ensures sum) refl
