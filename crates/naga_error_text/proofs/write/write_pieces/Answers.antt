use Rattle.std.proofs.Common.{map}
use Rattle.std.proofs.lemmas.List.{at_drop_more}
use Rattle.std.specs.List.{concat}
use Rattle.naga_error_text.specs.steps.Pieces.{piece_text}
use Rattle.naga_error_text.proofs.WritingLaws.{written_step}
use Rattle.naga_error_text.proofs.write.write_pieces.Goals as goal

-- what is left begins with the piece that was written
pub loop-piece-preserved : goal.loop-piece-preserved
loop-piece-preserved c =
    let split = at_drop_more (λ pieces. concat (map (piece_text c.args.values) pieces)) c.args.pieces.now c.loop-piece.piece-index _ c.loop-piece-test.true in
    written_step _ _ _ _ _ _ _ _ _ _ c.write_piece-at.ensures.place c.write_piece-at.ensures.bytes split c.loop-piece.invariant
