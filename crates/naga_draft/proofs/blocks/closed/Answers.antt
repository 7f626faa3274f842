use Rattle.std.proofs.Common.{[], ◌∷◌, ◌≡◌, rules, subst, sym}
use Rattle.naga_ir.specs.declared.statement.Statement.TheOpen as one
use Rattle.naga_ir.specs.declared.statement.Statement.TheVariants as statement
use Rattle.naga_ir.specs.declared.statement.Statement.TheViews.{out-Statement, the_lemmas}
use Rattle.naga_draft.proofs.BlockLemmas.{closes-block, closes-empty_switch, closes-if, closes-switch}
use Rattle.naga_draft.specs.declared.item.Mark.TheVariants as mark
use Rattle.naga_draft.specs.OpenBlocks.{Closes}
use Rattle.naga_draft.proofs.blocks.closed.Goals as goal

pub returns-in-Block-clause-closed : goal.returns-in-Block-clause-closed
returns-in-Block-clause-closed c =
    let s = statement.Block c.args.block in
    let is : out-Statement s ≡ one.Block c.args.block = search (rules, the_lemmas) in
    subst (λ p. Closes (mark.End ∷ []) p c.args.block s) (sym c.in-Block.is) (closes-block c.args.block s is)

pub returns-in-Reject-clause-closed : goal.returns-in-Reject-clause-closed
returns-in-Reject-clause-closed c =
    let s = statement.If c.in-Reject.condition c.in-Reject.accept c.args.block in
    let is : out-Statement s ≡ one.If c.in-Reject.condition c.in-Reject.accept c.args.block = search (rules, the_lemmas) in
    subst (λ p. Closes (mark.End ∷ []) p c.args.block s) (sym c.in-Reject.is) (closes-if c.in-Reject.condition c.in-Reject.accept c.args.block s is)

pub returns-in-Switch-clause-closed : goal.returns-in-Switch-clause-closed
returns-in-Switch-clause-closed c =
    let s = statement.Switch c.in-Switch.selector c.new.result in
    let is : out-Statement s ≡ one.Switch c.in-Switch.selector c.new.result = search (rules, the_lemmas) in
    subst (λ p. Closes (mark.End ∷ []) p c.args.block s) (sym c.in-Switch.is) (closes-empty_switch c.in-Switch.selector c.new.result c.args.block s is c.new.ensures.items)

pub returns-in-Case-clause-closed : goal.returns-in-Case-clause-closed
returns-in-Case-clause-closed c =
    let cases = c.in_ok-with_case-in-Case.field-0 in
    let s = statement.Switch c.in-Case.selector cases in
    let is : out-Statement s ≡ one.Switch c.in-Case.selector cases = search (rules, the_lemmas) in
    subst (λ p. Closes (mark.End ∷ []) p c.args.block s) (sym c.in-Case.is) (closes-switch c.in-Case.selector c.in-Case.cases cases c.in-Case.head c.args.block s is c.in_ok-with_case-in-Case.ensures.added)
