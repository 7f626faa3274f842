use Rattle.std.proofs.Common.{◌≡◌, ◌<◌, List, Some, length, slice_get, rules, ap, sym, ◌∙◌}
use Rattle.naga_ir.specs.References.{operands}
use Rattle.naga_typing.specs.Kinds.{later}
use Rattle.naga_typing.specs.declared.expression_kind.ExpressionKind.{ExpressionKind}
use Rattle.naga_typing.proofs.ExpressionKinds.{all_seen, next_within, none_seen, one_seen}
use Rattle.naga_typing.proofs.expression_kind.ExpressionKindTracker.latest.Goals as goal

pub loop-operand-init : goal.loop-operand-init
loop-operand-init c = none_seen c.args.self.now (operands c.args.expression.now) _ (c.into_iter-operand-iterator.ensures.into_iter_gives ∙ c.operands-operand-items.ensures) c.requires

pub index-requires : goal.index-requires
index-requires c =
    let within : c.in-Some.operand < length c.args.self.now = next_within _ _ _ _ _ _ c.loop-operand.invariant c.in-Some.ensures.steps in search rules

pub loop-operand-preserved : goal.loop-operand-preserved
loop-operand-preserved c =
    let kind = c.index.result.now in
    let at : slice_get c.args.self.now c.in-Some.operand ≡ Some kind = ap (λ (kinds : List ExpressionKind). slice_get kinds c.in-Some.operand) (sym c.self.view_is) ∙ c.index.ensures in
    let later_one : c.max-kind.result ≡ later c.loop-operand.kind kind = search rules in
    one_seen c.args.self.now _ _ _ _ _ c.loop-operand.invariant c.in-Some.ensures.steps _ _ at later_one

pub returns : goal.returns
returns c = all_seen c.args.self.now _ _ _ c.loop-operand.invariant c.in-None.ensures.steps.0
