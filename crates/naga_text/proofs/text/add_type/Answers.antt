use Rattle.naga_text.proofs.SoFarLaws.{type_inserted}
use Rattle.naga_text.proofs.text.add_type.Goals as goal
use Rattle.std.proofs.Common.{None, ◌∙◌, arith}

pub returns : goal.returns
returns c =
    type_inserted c.args.types.now c.insert.new.self (record { name = None; inner = c.args.inner }) c.index.result c.len-count.result c.len-count.ensures.value (omega arith)
    (λ k h. c.index.ensures.value ∙ (c.in_ok-handle.ensures.present k h).1) (λ absent. c.index.ensures.value ∙ c.in_ok-handle.ensures.place absent) c.in_ok-handle.ensures.appended
