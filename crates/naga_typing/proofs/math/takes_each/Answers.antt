use Rattle.std.proofs.Common.{◌≡◌, ◌∙◌, ap, arith, Bool, true, Bor, List, [], ◌∷◌, drop, length, map, refl, sym}
use Rattle.std.specs.Prelude.{◌&&◌, leb}
use Rattle.std.proofs.lemmas.Bool.{le-leb}
use Rattle.std.proofs.lemmas.List.{at_drop_all, length-map}
use Rattle.naga_ir.specs.declared.types.TypeInner.{TypeInner}
use Rattle.naga_typing.specs.Math.{each_ok}
use Rattle.naga_typing.specs.steps.Math.{takes_further}
use Rattle.naga_typing.proofs.math.takes_each.Goals as goal

-- no arguments are taken, whatever the rules are
none_taken : (rules : List (TypeInner → TypeInner → Bool)) (first : TypeInner) → each_ok rules first [] ≡ true
none_taken [] first = refl
none_taken (rule ∷ rules) first = refl

pub returns : goal.returns
returns c =
    let rules = map takes_further c.args.rules.now in
    let left = map takes_further (drop c.loop-index.index c.args.rules.now) in
    let first = c.args.first.now in
    let further = map (λ (t : Bor TypeInner). t.now) c.args.further.now in
    let past : each_ok left first (map (λ (t : Bor TypeInner). t.now) (drop c.loop-index.index c.args.further.now)) ≡ true =
    at_drop_all (λ (ts : List (Bor TypeInner)). each_ok left first (map (λ (t : Bor TypeInner). t.now) ts)) c.args.further.now c.loop-index.index c.loop-index-test.false
    ∙ none_taken left first in
    let enough : leb (length further) (length rules) ≡ true =
    le-leb (length further) (length rules)
    (omega (arith, length-map c.args.further.now (λ (t : Bor TypeInner). t.now), length-map c.args.rules.now takes_further, c.if-further-rules.false)) in
    sym (ap (λ (b : Bool). b && each_ok rules first further) enough ∙ (sym c.loop-index.invariant ∙ past))
