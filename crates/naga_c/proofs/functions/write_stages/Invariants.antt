use Rattle.std.proofs.Common.{◌≡◌, ◌++◌, drop, take}
use Rattle.naga_c.specs.Functions.{stages_of}
use Rattle.naga_c.proofs.functions.write_stages.Given as goal

-- the stages so far are written, and the others are as they were
abbrev pub invariant-loop-index : goal.invariant-loop-index
invariant-loop-index l = l.stages ≡ take l.index (stages_of l.info.lists) ++ drop l.index l.fn.stages
