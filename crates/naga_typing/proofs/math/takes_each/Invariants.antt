use Rattle.std.proofs.Common.{◌≡◌, Bor, drop, map}
use Rattle.naga_ir.specs.declared.types.TypeInner.{TypeInner}
use Rattle.naga_typing.specs.Math.{each_ok}
use Rattle.naga_typing.specs.steps.Math.{takes_further}
use Rattle.naga_typing.proofs.math.takes_each.Given as goal

-- the arguments that are left are taken if all are
abbrev pub invariant-loop-index : goal.invariant-loop-index
invariant-loop-index l =
    let left = each_ok (map takes_further (drop l.index l.rules)) l.first (map (λ (t : Bor TypeInner). t.now) (drop l.index l.further)) in
    left ≡ each_ok (map takes_further l.rules) l.first (map (λ (t : Bor TypeInner). t.now) l.further)
