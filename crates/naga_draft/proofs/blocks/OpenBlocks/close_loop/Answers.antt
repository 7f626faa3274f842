use Rattle.std.proofs.Common.{◌≡◌, refl, rules, subst}
use Rattle.naga_ir.specs.declared.statement.Statement.TheOpen as one
use Rattle.naga_ir.specs.declared.statement.Statement.TheVariants as statement
use Rattle.naga_ir.specs.declared.statement.Statement.TheViews.{out-Statement, the_lemmas}
use Rattle.naga_draft.proofs.BlockLemmas.{close-adds, closes-loop}
use Rattle.naga_draft.specs.declared.blocks.Opener.TheVariants as opener
use Rattle.naga_draft.specs.declared.item.Mark.TheVariants as mark
use Rattle.naga_draft.specs.OpenBlocks.{TakesBlock}
use Rattle.naga_draft.proofs.blocks.OpenBlocks.close_loop.Goals as goal

pub returns-in-Continuing-clause-added : goal.returns-in-Continuing-clause-added
returns-in-Continuing-clause-added c =
    let body = c.in-Continuing.body in
    let continuing = c.in_ok-opener.continuing in
    let break_if = c.args.break_if in
    let is : out-Statement (statement.Loop body continuing break_if) ≡ one.Loop body continuing break_if = search (rules, the_lemmas) in
    close-adds c.args.self.now c.take.new.self (record c.take.new.self { block = c.push.new.self }) (opener.Continuing body) continuing (mark.EndOfLoop break_if) (statement.Loop body continuing break_if)
    (subst (λ p. TakesBlock c.args.self.now p continuing c.take.new.self) c.in-Continuing.is c.in_ok-opener.ensures.taken)
    (closes-loop body continuing break_if (statement.Loop body continuing break_if) is) refl c.in_ok-push-in-Continuing.ensures.pushed
