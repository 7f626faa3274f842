use Rattle.std.proofs.Common.{◌≡◌, Bor, drop, map}
use Rattle.std.specs.List.{enumerate_from}
use Rattle.naga_ir.specs.declared.types.TypeInner.{TypeInner}
use Rattle.naga_exprs.proofs.math.first_refused.Given as goal
use Rattle.naga_exprs.specs.Math.{MathTyping, argument_error}
use Rattle.naga_types.specs.Checks.{first}

-- the arguments that are left have the same first error as all
abbrev pub invariant-loop-index : goal.invariant-loop-index
invariant-loop-index g l =
    let typing : MathTyping = record { accepts = g.T.Typing.accepts_types l.typing; least_arguments = g.T.Typing.least_arguments l.typing } in
    let refusal = argument_error typing l.fun (map (λ (t : Bor TypeInner). t.now) l.types) in
    first (map refusal (enumerate_from l.index (drop l.index l.arguments))) ≡ first (map refusal (enumerate_from 0 l.arguments))
