use Rattle.std.proofs.Common.{◌∙◌, ◌∷◌, [], ap, arith, length, length-append, subst, sym}
use Rattle.naga_info.proofs.KeptSources.{one_in_function}
use Rattle.naga_info.specs.Integers.{scope_in}
use Rattle.naga_info.specs.Sources.{AreSources, IsLastSource}
use Rattle.naga_info.specs.declared.sources.Place.TheVariants.{InFunction}
use Rattle.naga_info.proofs.sources.Sources.find_in_function.Goals as goal

pub loop-index-preserved : goal.loop-index-preserved
loop-index-preserved c =
    let s = scope_in c.args.«module».now c.args.function.now in
    let old = c.loop-index.self in
    let last = c.last-last.result in
    let so_far = c.loop-index.invariant in
    let one = one_in_function s old last so_far.right (subst (λ p. IsLastSource s p last) (ap InFunction (c.new.ensures ∙ sym so_far.count)) c.last-last.ensures) in
    record {
      right = subst (λ xs. AreSources s (record old { in_function = xs })) (sym c.in_ok-push.ensures.pushed) one;
      count = omega (arith, ap length c.in_ok-push.ensures.pushed, length-append old.in_function (last ∷ []), so_far.count);
      others = so_far.others;
    }
