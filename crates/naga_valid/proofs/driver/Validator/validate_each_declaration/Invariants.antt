use Rattle.naga_valid.specs.Interfaces.{KeepDeclarations}
use Rattle.naga_valid.proofs.driver.Validator.validate_each_declaration.Given as goal

-- the functions so far declare what they may
abbrev pub invariant-loop-index : goal.invariant-loop-index
invariant-loop-index g l = KeepDeclarations l.self l.module l.mod_info.lists l.index
