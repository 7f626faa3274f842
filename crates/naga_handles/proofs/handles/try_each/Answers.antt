use Rattle.std.proofs.Common.{rules, ◌≡◌, [], ◌∷◌, drop, ◌+◌, refl, subst, sym}
use Rattle.std.specs.Prelude.{Ok, Err}
use Rattle.std.specs.Fn.{FnReturnsAt}
use Rattle.std.proofs.lemmas.Fn.{says_at}
use Rattle.std.proofs.lemmas.List.{drop_all}
use Rattle.naga_ir.specs.FirstError.{ChecksEach}
use Rattle.naga_ir.proofs.StatementLemmas.{checks-single}
use Rattle.naga_handles.proofs.PassedPrefix.{begin, end, left-along, left-at, more, stop}
use Rattle.naga_handles.proofs.handles.try_each.Goals as goal

pub loop-item-init : goal.loop-item-init
loop-item-init g c = begin (FnReturnsAt g.F.Fn c.args.check.now) c.args.items.now

pub returns-in_err-check : goal.returns-in_err-check
returns-in_err-check g c =
    let check = FnReturnsAt g.F.Fn c.args.check.now in
    let items = c.args.items.now in
    let is : c.from_residual.result ≡ Err c.in_err-check.field-0.0 = search rules in
    subst (ChecksEach check items) (sym is)
    (stop check _ (drop (c.loop-item.item-index + 1) items) _
    (left-along check _ _ (left-at items c.loop-item.item-index _ c.loop-item-test.true c.item-item.is) c.loop-item.invariant)
    (checks-single check _ (Err _) (says_at g.F.Fn c.in_err-check.ensures refl)))

pub loop-item-preserved : goal.loop-item-preserved
loop-item-preserved g c =
    let check = FnReturnsAt g.F.Fn c.args.check.now in
    let items = c.args.items.now in
    more check (c.item-item.result ∷ []) (drop (c.loop-item.item-index + 1) items)
    (left-along check _ _ (left-at items c.loop-item.item-index _ c.loop-item-test.true c.item-item.is) c.loop-item.invariant)
    (checks-single check _ (Ok _) (says_at g.F.Fn c.in_ok-check.ensures refl))

pub returns : goal.returns
returns g c =
    let check = FnReturnsAt g.F.Fn c.args.check.now in
    let items = c.args.items.now in
    end check (left-along check _ _ (drop_all c.loop-item.item-index items c.loop-item-test.false) c.loop-item.invariant)
