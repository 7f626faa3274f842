use Rattle.std.proofs.Common.{◌≡◌, ◌+◌, drop, length, map}
use Rattle.naga_error_text.specs.steps.Pieces.{part_text}
use Rattle.naga_error_text.specs.steps.Writing.{written_at}
use Rattle.std.specs.List.{concat}
use Rattle.naga_error_text.proofs.write.write_parts.Given as goal

-- the pieces that are left, written at the place that is reached, make the text of all of them
abbrev pub invariant-loop-part : goal.invariant-loop-part
invariant-loop-part l =
    (l.at + length (concat (map (part_text l.values) (drop l.part-index l.parts))) ≡ l.fn.start + length (concat (map (part_text l.values) l.parts))) ×
    (written_at l.at (concat (map (part_text l.values) (drop l.part-index l.parts))) l.buffer ≡ written_at l.fn.start (concat (map (part_text l.values) l.parts)) l.fn.buffer)
