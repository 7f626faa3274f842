use Rattle.std.proofs.Common.{sym}
use Rattle.naga_info.specs.Integers.{scope_in}
use Rattle.naga_info.proofs.IntegerSources.{begin, follow, jump}
use Rattle.naga_info.proofs.sources.Sources.last.Goals as goal

pub loop-next-init : goal.loop-next-init
loop-next-init c = begin (scope_in c.args.«module».now c.args.function.now) c.args.place c.requires.exists

pub loop-next-preserved : goal.loop-next-preserved
loop-next-preserved c = follow (scope_in c.args.«module».now c.args.function.now) c.args.place c.loop-next.last c.in-Some.next c.loop-next.invariant c.in-Some.ensures.source

pub returns-in-Some-kept : goal.returns-in-Some-kept
returns-in-Some-kept c =
    let kept = c.requires.right c.in-Some.next c.in-Some-kept.source (sym c.in-Some-kept.ensures) in
    jump (scope_in c.args.«module».now c.args.function.now) c.args.place c.loop-next.last c.in-Some.next c.in-Some-kept.source c.loop-next.invariant c.in-Some.ensures.source kept
