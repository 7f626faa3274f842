use Rattle.std.proofs.Common.{◌≡◌, ◌≤◌, length, take}
use Rattle.naga_ir.specs.Operands.{present}
use Rattle.naga_ir.proofs.operands.Fields.present.Given as goal

-- the operands so far stand at the front
abbrev pub invariant-loop-option : goal.invariant-loop-option
invariant-loop-option l = record {
  front : take l.end l.operands ≡ present (take l.option-index l.options);
  few : l.end ≤ l.option-index;
  whole : length l.operands ≡ 8;
}
