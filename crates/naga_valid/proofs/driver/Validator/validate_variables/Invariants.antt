use Rattle.std.proofs.Common.{ℕ}
use Rattle.naga_interface.specs.GlobalVariables.{global_variable_rule}
use Rattle.naga_typing.proofs.Iteration.{Iterating}
use Rattle.naga_valid.proofs.driver.Validator.validate_variables.Given as goal
use Rattle.naga_valid.specs.Interfaces.{surroundings_of}

-- the variables so far are accepted, by the kinds that were found
abbrev pub invariant-loop-handle : goal.invariant-loop-handle
invariant-loop-handle g l =
    (count : ℕ)
    × Iterating (global_variable_rule (surroundings_of l.self l.module) (record { types = l.mod_info.lists.const_expression_types; kinds = l.init.kinds.now })) l.module.global_variables count l.handle-iterator
