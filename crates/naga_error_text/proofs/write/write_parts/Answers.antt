use Rattle.std.proofs.Common.{map}
use Rattle.std.proofs.lemmas.List.{at_drop_more}
use Rattle.std.specs.List.{concat}
use Rattle.naga_error_text.specs.steps.Pieces.{part_text}
use Rattle.naga_error_text.proofs.WritingLaws.{written_step}
use Rattle.naga_error_text.proofs.write.write_parts.Goals as goal

-- what is left begins with the piece that was written
pub loop-part-preserved : goal.loop-part-preserved
loop-part-preserved c =
    let split = at_drop_more (λ parts. concat (map (part_text c.args.values) parts)) c.args.parts.now c.loop-part.part-index _ c.loop-part-test.true in
    written_step _ _ _ _ _ _ _ _ _ _ c.write_part-at.ensures.place c.write_part-at.ensures.bytes split c.loop-part.invariant
