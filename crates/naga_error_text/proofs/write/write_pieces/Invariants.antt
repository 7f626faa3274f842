use Rattle.std.proofs.Common.{◌≡◌, ◌+◌, drop, length, map}
use Rattle.naga_error_text.specs.steps.Pieces.{piece_text}
use Rattle.naga_error_text.specs.steps.Writing.{written_at}
use Rattle.std.specs.List.{concat}
use Rattle.naga_error_text.proofs.write.write_pieces.Given as goal

-- the pieces that are left, written at the place that is reached, make the text of all of them
abbrev pub invariant-loop-piece : goal.invariant-loop-piece
invariant-loop-piece l =
    (l.at + length (concat (map (piece_text l.values) (drop l.piece-index l.pieces))) ≡ l.fn.start + length (concat (map (piece_text l.values) l.pieces))) ×
    (written_at l.at (concat (map (piece_text l.values) (drop l.piece-index l.pieces))) l.buffer ≡ written_at l.fn.start (concat (map (piece_text l.values) l.pieces)) l.fn.buffer)
