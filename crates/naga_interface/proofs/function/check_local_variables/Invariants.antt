use Rattle.std.proofs.Common.{◌≡◌, drop, map}
use Rattle.std.specs.List.{enumerate_from}
use Rattle.naga_interface.specs.Functions.{local_variable_error, local_variables_error}
use Rattle.naga_interface.specs.Surroundings.{known, surroundings}
use Rattle.naga_types.specs.Checks.{first}
use Rattle.naga_interface.proofs.function.check_local_variables.Given as goal

-- the first error of all local variables is the first of those that are left
abbrev pub invariant-loop-index : goal.invariant-loop-index
invariant-loop-index l =
    first (map (local_variable_error (surroundings l.ctx) (known l.init)) (enumerate_from l.index (drop l.index l.function.local_variables)))
    ≡ local_variables_error (surroundings l.ctx) (known l.init) l.function.local_variables
