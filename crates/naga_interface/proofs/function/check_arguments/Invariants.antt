use Rattle.std.proofs.Common.{◌≡◌, drop, map}
use Rattle.std.specs.List.{enumerate_from}
use Rattle.naga_interface.specs.Functions.{argument_error, arguments_error}
use Rattle.naga_interface.specs.Surroundings.{surroundings}
use Rattle.naga_types.specs.Checks.{first}
use Rattle.naga_interface.proofs.function.check_arguments.Given as goal

-- the first error of all arguments is the first of those that are left
abbrev pub invariant-loop-index : goal.invariant-loop-index
invariant-loop-index l =
    first (map (argument_error (surroundings l.ctx) l.is_entry_point) (enumerate_from l.index (drop l.index l.arguments)))
    ≡ arguments_error (surroundings l.ctx) l.is_entry_point l.arguments
