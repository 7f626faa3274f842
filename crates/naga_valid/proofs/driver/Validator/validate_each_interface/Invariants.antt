use Rattle.naga_valid.specs.Interfaces.{KeepInterfaces}
use Rattle.naga_valid.specs.steps.Interfaces.{AreNoted}
use Rattle.naga_valid.proofs.driver.Validator.validate_each_interface.Given as goal

-- the entry points so far keep their rules, and their names are noted
abbrev pub invariant-loop-index : goal.invariant-loop-index
invariant-loop-index g l = record {
  kept : KeepInterfaces l.self l.module l.mod_info.lists l.index;
  noted : AreNoted l.module l.index l.names;
}
