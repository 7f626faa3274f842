use Rattle.std.proofs.Common.{◌≡◌, drop, map, take}
use Rattle.std.specs.List.{enumerate_from}
use Rattle.naga_interface.specs.EntryPoints.{argument_bindings, input_error, inputs_error}
use Rattle.naga_interface.specs.steps.BindingSets.{AreIn}
use Rattle.naga_interface.specs.steps.VaryingContexts.{varyings_in}
use Rattle.naga_types.specs.Checks.{first}
use Rattle.naga_interface.proofs.entry_point.check_inputs.Given as goal

-- the first error of all arguments is the first of those that are left, and the bindings of the others are added
abbrev pub invariant-loop-index : goal.invariant-loop-index
invariant-loop-index l = record {
  left : first (map (input_error (varyings_in l.context) l.arguments) (enumerate_from l.index (drop l.index l.arguments)))
      ≡ inputs_error (varyings_in l.context) l.arguments;
  added : AreIn (argument_bindings (varyings_in l.context).interface (take l.index l.arguments)) l.before;
}
