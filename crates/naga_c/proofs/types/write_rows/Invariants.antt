use Rattle.std.proofs.Common.{◌≡◌, ◌++◌, drop, take}
use Rattle.naga_c.specs.Types.{rows_of}
use Rattle.naga_c.proofs.types.write_rows.Given as goal

-- the rows so far are written, and the others are as they were
abbrev pub invariant-loop-index : goal.invariant-loop-index
invariant-loop-index l = l.rows ≡ take l.index (rows_of l.validator.infos l.layouter) ++ drop l.index l.fn.rows
