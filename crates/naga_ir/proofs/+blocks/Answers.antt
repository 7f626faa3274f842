use Rattle.std.proofs.Common.{rules, ◌≡◌, ◌∙◌, ap, subst, sym, arith, []}
use Rattle.std.proofs.lemmas.Grind.{common_steps}
use Rattle.std.specs.Prelude.{Ok, Err}
use Rattle.std.specs.List.{flat_map}
use Rattle.naga_ir.specs.Statements.{block_references, statement_references, case_references}
use Rattle.naga_ir.specs.steps.StatementParts.{references_of}
use Rattle.naga_ir.specs.FirstError.{ChecksEach}
use Rattle.naga_ir.specs.declared.statement.Statement.TheOpen as one
use Rattle.naga_ir.specs.declared.statement.Statement.TheViews.{out-Statement, the_lemmas}
use Rattle.naga_ir.proofs.StatementLemmas.{nested, checks-along, checks-none, checks-before, checks-then, checks-more, checks-stop, checks-end, checks-statement, statement-out, block-out, case-out}
use Rattle.naga_ir.proofs.+blocks.Given as given
use Rattle.naga_ir.proofs.+blocks.Goals as goal

pub statement::Block::try_for_each_reference-returns-in_err-try_for_each_in_statement : goal.statement::Block::try_for_each_reference-returns-in_err-try_for_each_in_statement
statement::Block::try_for_each_reference-returns-in_err-try_for_each_in_statement g t c =
    let check = given.F-post g c.args.check.now in
    let is : c.from_residual.result ≡ Err c.in_err-try_for_each_in_statement.field-0.0 = search rules in
    checks-along check _ _ _ (ap (λ xs. flat_map statement_references xs) c.deref-statement-items.ensures.value ∙ sym (block-out c.args.self.now))
    (checks-stop check statement_references c.deref-statement-items.result.now _ _ _ _ c.loop-statement-test.true c.statement-item.is is c.loop-statement.invariant c.in_err-try_for_each_in_statement.ensures)

pub statement::Block::try_for_each_reference-loop-statement-preserved : goal.statement::Block::try_for_each_reference-loop-statement-preserved
statement::Block::try_for_each_reference-loop-statement-preserved g t c =
    let check = given.F-post g c.args.check.now in
    checks-more check statement_references c.deref-statement-items.result.now _ _ c.loop-statement-test.true c.statement-item.is c.loop-statement.invariant c.in_ok-try_for_each_in_statement.ensures

pub statement::Block::try_for_each_reference-returns : goal.statement::Block::try_for_each_reference-returns
statement::Block::try_for_each_reference-returns g t c =
    let check = given.F-post g c.args.check.now in
    checks-along check _ _ (Ok _) (ap (λ xs. flat_map statement_references xs) c.deref-statement-items.ensures.value ∙ sym (block-out c.args.self.now))
    (checks-end check statement_references c.deref-statement-items.result.now _ c.loop-statement-test.false c.loop-statement.invariant)

pub block_references::try_for_each_in_cases-returns-in_err-try_for_each_reference : goal.block_references::try_for_each_in_cases-returns-in_err-try_for_each_reference
block_references::try_for_each_in_cases-returns-in_err-try_for_each_reference g t c =
    let check = given.F-post g c.args.check.now in
    let is : c.from_residual.result ≡ Err c.in_err-try_for_each_reference.field-0.0 = search rules in
    checks-stop check case_references c.args.cases.now _ _ _ _ c.loop-case-test.true c.case-item.is is c.loop-case.invariant
    (checks-along check _ _ (Err _) (sym (case-out c.case-item.result)) c.in_err-try_for_each_reference.ensures)

pub block_references::try_for_each_in_cases-loop-case-preserved : goal.block_references::try_for_each_in_cases-loop-case-preserved
block_references::try_for_each_in_cases-loop-case-preserved g t c =
    let check = given.F-post g c.args.check.now in
    checks-more check case_references c.args.cases.now _ _ c.loop-case-test.true c.case-item.is c.loop-case.invariant
    (checks-along check _ _ (Ok _) (sym (case-out c.case-item.result)) c.in_ok-try_for_each_reference.ensures)

pub block_references::try_for_each_in_cases-returns : goal.block_references::try_for_each_in_cases-returns
block_references::try_for_each_in_cases-returns g t c =
    let check = given.F-post g c.args.check.now in
    checks-end check case_references c.args.cases.now _ c.loop-case-test.false c.loop-case.invariant

pub block_references::try_for_each_in_statement-returns-in_err-try_for_each_own_reference : goal.block_references::try_for_each_in_statement-returns-in_err-try_for_each_own_reference
block_references::try_for_each_in_statement-returns-in_err-try_for_each_own_reference g t c =
    let check = given.F-post g c.args.check.now in
    let s = c.args.statement.now in
    let is : c.from_residual.result ≡ Err c.in_err-try_for_each_own_reference.field-0.0 = search rules in
    subst (ChecksEach check _) (sym is)
    (checks-along check _ _ (Err _) (sym (statement-out s))
    (checks-before check (references_of s) (nested (out-Statement s)) _ c.in_err-try_for_each_own_reference.ensures))

pub block_references::try_for_each_in_statement-returns-in-Block : goal.block_references::try_for_each_in_statement-returns-in-Block
block_references::try_for_each_in_statement-returns-in-Block g t c =
    let check = given.F-post g c.args.check.now in
    let is : out-Statement c.args.statement.now ≡ one.Block c.in-Block.block = search (rules, the_lemmas) in
    checks-statement check _ _ _ is c.in_ok-try_for_each_own_reference.ensures c.try_for_each_reference.ensures

pub block_references::try_for_each_in_statement-returns-in_err-try_for_each_reference-in-If : goal.block_references::try_for_each_in_statement-returns-in_err-try_for_each_reference-in-If
block_references::try_for_each_in_statement-returns-in_err-try_for_each_reference-in-If g t c =
    let check = given.F-post g c.args.check.now in
    let is : out-Statement c.args.statement.now ≡ one.If c.in-If.condition c.in-If.accept c.in-If.reject = search (rules, the_lemmas) in
    let refused : c.from_residual-in_err-try_for_each_reference-in-If.result ≡ Err c.in_err-try_for_each_reference-in-If.field-0.0 = search rules in
    subst (ChecksEach check _) (sym refused)
    (checks-statement check _ _ (Err _) is c.in_ok-try_for_each_own_reference.ensures
    (checks-before check (block_references c.in-If.accept) (block_references c.in-If.reject) _ c.in_err-try_for_each_reference-in-If.ensures))

pub block_references::try_for_each_in_statement-returns-in_ok-try_for_each_reference-in-If : goal.block_references::try_for_each_in_statement-returns-in_ok-try_for_each_reference-in-If
block_references::try_for_each_in_statement-returns-in_ok-try_for_each_reference-in-If g t c =
    let check = given.F-post g c.args.check.now in
    let is : out-Statement c.args.statement.now ≡ one.If c.in-If.condition c.in-If.accept c.in-If.reject = search (rules, the_lemmas) in
    checks-statement check _ _ _ is c.in_ok-try_for_each_own_reference.ensures
    (checks-then check (block_references c.in-If.accept) (block_references c.in-If.reject) _ c.in_ok-try_for_each_reference-in-If.ensures c.try_for_each_reference-in-If-2.ensures)

pub block_references::try_for_each_in_statement-returns-in-Switch : goal.block_references::try_for_each_in_statement-returns-in-Switch
block_references::try_for_each_in_statement-returns-in-Switch g t c =
    let check = given.F-post g c.args.check.now in
    let is : out-Statement c.args.statement.now ≡ one.Switch c.in-Switch.selector c.in-Switch.cases = search (rules, the_lemmas) in
    checks-statement check _ _ _ is c.in_ok-try_for_each_own_reference.ensures
    (checks-along check _ _ _ (ap (λ xs. flat_map case_references xs) c.deref.ensures.value) c.try_for_each_in_cases.ensures)

pub block_references::try_for_each_in_statement-returns-in_err-try_for_each_reference-in-Loop : goal.block_references::try_for_each_in_statement-returns-in_err-try_for_each_reference-in-Loop
block_references::try_for_each_in_statement-returns-in_err-try_for_each_reference-in-Loop g t c =
    let check = given.F-post g c.args.check.now in
    let is : out-Statement c.args.statement.now ≡ one.Loop c.in-Loop.body c.in-Loop.continuing c.in-Loop.break_if = search (rules, the_lemmas) in
    let refused : c.from_residual-in_err-try_for_each_reference-in-Loop.result ≡ Err c.in_err-try_for_each_reference-in-Loop.field-0.0 = search rules in
    subst (ChecksEach check _) (sym refused)
    (checks-statement check _ _ (Err _) is c.in_ok-try_for_each_own_reference.ensures
    (checks-before check (block_references c.in-Loop.body) (block_references c.in-Loop.continuing) _ c.in_err-try_for_each_reference-in-Loop.ensures))

pub block_references::try_for_each_in_statement-returns-in_ok-try_for_each_reference-in-Loop : goal.block_references::try_for_each_in_statement-returns-in_ok-try_for_each_reference-in-Loop
block_references::try_for_each_in_statement-returns-in_ok-try_for_each_reference-in-Loop g t c =
    let check = given.F-post g c.args.check.now in
    let is : out-Statement c.args.statement.now ≡ one.Loop c.in-Loop.body c.in-Loop.continuing c.in-Loop.break_if = search (rules, the_lemmas) in
    checks-statement check _ _ _ is c.in_ok-try_for_each_own_reference.ensures
    (checks-then check (block_references c.in-Loop.body) (block_references c.in-Loop.continuing) _ c.in_ok-try_for_each_reference-in-Loop.ensures c.try_for_each_reference-in-Loop-2.ensures)

pub block_references::try_for_each_in_statement-returns-in-Emit : goal.block_references::try_for_each_in_statement-returns-in-Emit
block_references::try_for_each_in_statement-returns-in-Emit g t c =
    let check = given.F-post g c.args.check.now in
    let none : nested (out-Statement c.args.statement.now) ≡ [] = grind (arith, common_steps, the_lemmas) in
    checks-along check _ _ (Ok _) (sym (statement-out c.args.statement.now))
    (checks-then check _ _ (Ok _) c.in_ok-try_for_each_own_reference.ensures (checks-along check _ _ (Ok _) (sym none) (checks-none check)))
