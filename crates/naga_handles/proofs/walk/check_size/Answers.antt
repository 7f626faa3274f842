use Rattle.std.proofs.Common.{◌≤◌, ◌<◌, ◌∙◌, sym, subst, ap, length, ℕ, rules}
use Rattle.std.proofs.lemmas.Option.{same_Some}
use Rattle.naga_ir.specs.ItemReferences.{global_lists}
use Rattle.naga_ir.specs.Parts.{size_override}
use Rattle.naga_handles.specs.Faults.{initialiser, size}
use Rattle.naga_handles.proofs.OrderFaults.{late_size, no_size, size_none, size_some, size_stands}
use Rattle.naga_handles.proofs.walk.check_size.Goals as goal

pub returns-in_default-clause-right : goal.returns-in_default-clause-right
returns-in_default-clause-right c =
    let x = c.requires.0 in
    no_size c.args.module.now c.args.handle x c.args.inner.now c.requires.1 c.requires.2 (sym c.size_override.ensures ∙ c.in_default.is)

pub returns-in_default-clause-size : goal.returns-in_default-clause-size
returns-in_default-clause-size c =
    sym (size_none (global_lists c.args.module.now) c.args.handle c.requires.0 c.requires.1 (ap size_override c.requires.2 ∙ sym c.size_override.ensures ∙ c.in_default.is))

pub check_exists-requires : goal.check_exists-requires
check_exists-requires c =
    size c.args.handle c.in-Some.size c.requires.0 c.requires.1 (ap size_override c.requires.2 ∙ sym c.size_override.ensures ∙ c.in-Some.is)

pub returns-in_err-check_dep-clause-refused : goal.returns-in_err-check_dep-clause-refused
returns-in_err-check_dep-clause-refused c =
    let late : c.args.handle ≤ c.index-sizing.result.now.ty = search rules in
    let fault = late_size c.args.module.now c.args.handle c.requires.0 c.args.inner.now c.requires.1 c.requires.2 c.in-Some.size c.index-sizing.result.now (sym c.size_override.ensures ∙ c.in-Some.is) c.index-sizing.ensures late in
    search rules

pub returns-in_default-init-clause-right : goal.returns-in_default-init-clause-right
returns-in_default-init-clause-right c =
    let there : c.in-Some.size < length c.args.module.now.overrides = search rules in
    let before : c.index-sizing.result.now.ty < c.args.handle = search rules in
    size_stands c.args.module.now c.args.handle c.requires.0 c.args.inner.now c.requires.1 c.requires.2 c.in-Some.size c.index-sizing.result.now (sym c.size_override.ensures ∙ c.in-Some.is) c.index-sizing.ensures there before
    (λ n begins. let none = c.in_default-init.is in absurd (cc))

pub returns-in_default-init-clause-size : goal.returns-in_default-init-clause-size
returns-in_default-init-clause-size c =
    sym (size_some (global_lists c.args.module.now) c.args.handle c.in-Some.size c.requires.0 c.index-sizing.result.now c.requires.1 (ap size_override c.requires.2 ∙ sym c.size_override.ensures ∙ c.in-Some.is) c.index-sizing.ensures ∙ c.in_default-init.is)

pub check_exists-requires-2 : goal.check_exists-requires-2
check_exists-requires-2 c =
    initialiser c.args.handle c.in-Some-init.last (size_some (global_lists c.args.module.now) c.args.handle c.in-Some.size c.requires.0 c.index-sizing.result.now c.requires.1 (ap size_override c.requires.2 ∙ sym c.size_override.ensures ∙ c.in-Some.is) c.index-sizing.ensures ∙ c.in-Some-init.is)

pub returns-clause-right : goal.returns-clause-right
returns-clause-right c =
    let there : c.in-Some.size < length c.args.module.now.overrides = search rules in
    let before : c.index-sizing.result.now.ty < c.args.handle = search rules in
    let last : c.in-Some-init.last < length c.args.module.now.global_expressions = search rules in
    size_stands c.args.module.now c.args.handle c.requires.0 c.args.inner.now c.requires.1 c.requires.2 c.in-Some.size c.index-sizing.result.now (sym c.size_override.ensures ∙ c.in-Some.is) c.index-sizing.ensures there before
    (λ n begins. subst (λ (k : ℕ). k < length c.args.module.now.global_expressions) (same_Some c.in-Some-init.last n (sym c.in-Some-init.is ∙ begins)) last)

pub returns-clause-size : goal.returns-clause-size
returns-clause-size c =
    sym (size_some (global_lists c.args.module.now) c.args.handle c.in-Some.size c.requires.0 c.index-sizing.result.now c.requires.1 (ap size_override c.requires.2 ∙ sym c.size_override.ensures ∙ c.in-Some.is) c.index-sizing.ensures ∙ c.in-Some-init.is)
