use Rattle.std.proofs.Common.{rules, ◌≡◌, ◌∙◌, ap, length, sym}
use Rattle.std.proofs.lemmas.List.{nil_from_length}
use Rattle.std.specs.List.{flat_map}
use Rattle.naga_ir.specs.Statements.{block_references, statement_references}
use Rattle.naga_ir.specs.declared.statement.Statement.TheViews.{out-Block}
use Rattle.naga_ir.proofs.StatementLemmas.{block-out, checks-along, checks-none}
use Rattle.naga_handles.specs.steps.ItemChecks.{IsResult, checks}
use Rattle.naga_handles.specs.steps.Checks.{of_function}
use Rattle.naga_handles.proofs.CheckLemmas.{checks-visited}
use Rattle.naga_handles.proofs.handles.validate_statements.Goals as goal

pub returns-then-is_empty : goal.returns-then-is_empty
returns-then-is_empty c =
    let n = c.args.scope.now.counts in
    let s = of_function c.args.scope.now.caller in
    let b = c.args.block.now in
    let zero : length (out-Block b).body.items ≡ 0 = search rules in
    let none = nil_from_length (out-Block b).body.items zero in
    checks-along IsResult _ _ _ (sym (ap (checks n s) (block-out b ∙ ap (flat_map statement_references) none))) (checks-none IsResult)

pub returns : goal.returns
returns c =
    let n = c.args.scope.now.counts in
    let s = of_function c.args.scope.now.caller in
    checks-visited n s (block_references c.args.block.now) (λ y t k. search rules) c.try_for_each_reference.ensures
