use Rattle.std.proofs.Common.{◌+◌, ℕ, List, Bor, sym, ap, subst, ◌∙◌, arith, rules}
use Rattle.std.specs.Fmt.{HasWritten}
use Rattle.std.proofs.Output.{has_written_append, has_written_of_eq}
use Rattle.naga_immediates.proofs.SlotRuns.{run_end, run_from}
use Rattle.naga_immediates.proofs.SlotTexts.{all_written, no_more, one_more, run_written, runs_before, separator, separator_more, written}
use Rattle.naga_immediates.proofs.immediates.ImmediateSlotsDisplay.fmt.Goals as goal
use Rattle.naga_immediates.proofs.immediates.ImmediateSlotsDisplay.fmt.Goals.{then-begins_run+in_ok-write, else-begins_run}

pub overflow_mul-end : goal.overflow_mul-end
overflow_mul-end g c = let within = (run_end c.args.self.now c.loop-slot.slot (omega (arith, c.loop-slot-test.true))).within in omega (arith, c.end_of_run.ensures, within)

pub loop-slot-preserved : goal.loop-slot-preserved
loop-slot-preserved g c =
    let slots = c.args.self.now in
    let slot = c.loop-slot.slot in
    elim c.if-begins_run.branch [
      | then-begins_run+in_ok-write w ↦ (
        λ plain. subst (λ f. HasWritten g.W.Write.write_str_gives c.args.f.now (written (runs_before slots (slot + 1))) f) (sym w.f-is)
            (has_written_of_eq _ _ _ _ _ (run_written slots slot w.end_of_run.result c.loop-slot.separator.now (sym c.begins_run.ensures ∙ w.if-begins_run.true) c.loop-slot.invariant.1 w.end_of_run.ensures)
            (has_written_append _ _ _ _ _ _ (c.loop-slot.invariant.0 plain) (search rules))),
        ap (λ (text : Bor (List ℕ)). text.now) w.separator-is ∙ separator_more (runs_before slots slot) (run_from slots slot) ∙ ap separator (one_more slots slot (sym c.begins_run.ensures ∙ w.if-begins_run.true)),
      )
      | else-begins_run w ↦
          let same = no_more slots slot (sym c.begins_run.ensures ∙ w.if-begins_run.false) in (
            λ plain. subst (λ f. HasWritten g.W.Write.write_str_gives c.args.f.now (written (runs_before slots (slot + 1))) f) (sym w.f-is)
                (has_written_of_eq _ _ _ _ _ (ap written same) (c.loop-slot.invariant.0 plain)),
            ap (λ (text : Bor (List ℕ)). text.now) w.separator-is ∙ c.loop-slot.invariant.1 ∙ ap separator same,
          )
    ]

pub returns-clause-writes : goal.returns-clause-writes
returns-clause-writes g c plain ok = has_written_of_eq _ _ _ _ _ (all_written c.args.self.now c.loop-slot.slot (omega arith) c.if-self-eq0.false (omega (arith, c.loop-slot-test.false))) (c.loop-slot.invariant.0 plain)
