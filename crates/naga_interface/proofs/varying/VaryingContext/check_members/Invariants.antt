use Rattle.std.proofs.Common.{◌≡◌, ◌++◌, List, drop, map, take}
use Rattle.std.specs.List.{enumerate_from}
use Rattle.naga_interface.specs.Varyings.{member_bindings, member_error, members_error}
use Rattle.naga_interface.specs.steps.BindingSets.{AreIn}
use Rattle.naga_interface.specs.steps.VaryingContexts.{varyings_in}
use Rattle.naga_ir.specs.declared.types.Binding.{Binding}
use Rattle.naga_types.specs.Checks.{first}
use Rattle.naga_interface.proofs.varying.VaryingContext.check_members.Given as goal

-- the first error of all members is the first of those that are left, and the bindings of the others are added
abbrev pub invariant-loop-index : goal.invariant-loop-index
invariant-loop-index l =
    (earlier : List Binding) → AreIn earlier l.initial.before
    → (first (map (member_error (varyings_in l.self) earlier l.members) (enumerate_from l.index (drop l.index l.members)))
    ≡ members_error (varyings_in l.self) earlier l.members)
    × AreIn (earlier ++ member_bindings (take l.index l.members)) l.before
