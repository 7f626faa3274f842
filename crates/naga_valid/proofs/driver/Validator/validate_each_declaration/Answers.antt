use Rattle.std.proofs.Common.{rules, ◌≡◌, ◌<◌, ℕ, Ok, arith, length, subst, sym}
use Rattle.naga_valid.proofs.DeclarationAnswers.{declaration_refused, one_more_declared}
use Rattle.naga_valid.specs.Interfaces.{KeepDeclarations}
use Rattle.naga_valid.specs.steps.Interfaces.{IsDeclarationAnswer}
use Rattle.naga_valid.proofs.driver.Validator.validate_each_declaration.Goals as goal

pub returns-in-Err : goal.returns-in-Err
returns-in-Err g c =
    let m = c.args.module.now in
    let state = c.args.self.now in
    let lists = c.args.mod_info.now.lists in
    let handle = c.new-handle.result in
    let there : handle < length m.functions = omega (arith, c.new-handle.ensures, c.loop-index-test.true, c.len-index-end.ensures.value, c.len-index-end.ensures.bound) in
    declaration_refused state m lists handle c.in-Err.source there (subst (KeepDeclarations state m lists) (sym c.new-handle.ensures) c.loop-index.invariant) c.in-Err.ensures

pub loop-index-preserved : goal.loop-index-preserved
loop-index-preserved g c =
    let m = c.args.module.now in
    let state = c.args.self.now in
    let lists = c.args.mod_info.now.lists in
    let result = c.check_declarations.result in
    let accepted : result ≡ Ok tt = search rules in
    one_more_declared state m lists c.loop-index.index result c.loop-index.invariant (subst (λ (i : ℕ). IsDeclarationAnswer state m lists i result) c.new-handle.ensures c.check_declarations.ensures) accepted
