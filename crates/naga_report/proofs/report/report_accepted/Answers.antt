use Rattle.std.proofs.Common.{ℕ, List, ◌++◌, ap, codes, ◌∙◌}
use Rattle.naga_report.proofs.TypeLines.{begun, ended, within, written}
use Rattle.naga_report.proofs.report.report_accepted.Goals as goal

pub loop-handle-init : goal.loop-handle-init
loop-handle-init c = begun _ _ c.args.module.now.types _ c.new-text.ensures.bytes c.requires (c.into_iter-handle-iterator.ensures.into_iter_gives ∙ c.iter-handle-items.ensures)

pub type_info-requires : goal.type_info-requires
type_info-requires c = within _ _ _ _ _ _ c.loop-handle.invariant c.in-Some.ensures.steps

pub loop-handle-preserved : goal.loop-handle-preserved
loop-handle-preserved c = written _ _ _ _ _ _ _ _ c.loop-handle.invariant c.in-Some.ensures.steps c.type_info.ensures c.in_ok-add_type.ensures

pub returns : goal.returns
returns c = c.in_ok-push_str.ensures.bytes ∙ ap (λ (l : List ℕ). l ++ codes "ok\n") (ended _ _ _ c.loop-handle.invariant c.in-None.ensures.steps.0)
