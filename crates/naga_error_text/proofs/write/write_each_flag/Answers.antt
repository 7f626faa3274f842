use Rattle.std.proofs.Common.{map}
use Rattle.std.proofs.lemmas.List.{at_drop_more}
use Rattle.std.specs.List.{concat}
use Rattle.naga_error_text.specs.Flags.{flag_text}
use Rattle.naga_error_text.specs.steps.Pieces.{row_of}
use Rattle.naga_error_text.proofs.WritingLaws.{written_step}
use Rattle.naga_error_text.proofs.write.write_each_flag.Goals as goal

-- what is left begins with what was written of the flag
pub loop-flag-preserved : goal.loop-flag-preserved
loop-flag-preserved c =
    let split = at_drop_more (λ flags. concat (map (flag_text c.args.set) (map row_of flags))) c.args.flags.now c.loop-flag.flag-index _ c.loop-flag-test.true in
    written_step _ _ _ _ _ _ _ _ _ _ c.write_flag-at.ensures.place c.write_flag-at.ensures.bytes split c.loop-flag.invariant
