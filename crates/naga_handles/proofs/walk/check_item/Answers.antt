use Rattle.std.proofs.Common.{◌<◌, ◌≤◌, ◌∙◌, ℕ, sym, subst, rules}
use Rattle.std.proofs.lemmas.Option.{same_Some}
use Rattle.naga_ir.specs.Handles.{Exists, module_counts}
use Rattle.naga_handles.specs.Faults.{item}
use Rattle.naga_handles.proofs.OrderFaults.{constant_there, item_stands, late_value, no_item, override_there}
use Rattle.naga_handles.proofs.walk.check_item.Goals as goal

pub returns-in_default-clause-right : goal.returns-in_default-clause-right
returns-in_default-clause-right c = no_item c.args.module.now c.args.handle c.args.expression.now c.requires (sym c.named_item.ensures ∙ c.in_default.is)

pub check_exists-requires : goal.check_exists-requires
check_exists-requires c = item c.args.handle c.args.expression.now c.in-Some.item c.requires (sym c.named_item.ensures ∙ c.in-Some.is)

pub initialiser-requires-clause-constants : goal.initialiser-requires-clause-constants
initialiser-requires-clause-constants c =
    let there : Exists (module_counts c.args.module.now) c.in-Some.item = search rules in
    constant_there c.args.module.now c.args.handle c.args.expression.now c.requires c.in-Some.item (sym c.named_item.ensures ∙ c.in-Some.is) there

pub initialiser-requires-clause-overrides : goal.initialiser-requires-clause-overrides
initialiser-requires-clause-overrides c =
    let there : Exists (module_counts c.args.module.now) c.in-Some.item = search rules in
    override_there c.args.module.now c.args.handle c.args.expression.now c.requires c.in-Some.item (sym c.named_item.ensures ∙ c.in-Some.is) there

pub returns-in_default-initialiser-clause-right : goal.returns-in_default-initialiser-clause-right
returns-in_default-initialiser-clause-right c =
    let there : Exists (module_counts c.args.module.now) c.in-Some.item = search rules in
    item_stands c.args.module.now c.args.handle c.args.expression.now c.requires c.in-Some.item (sym c.named_item.ensures ∙ c.in-Some.is) there
    (λ n begins. let none = sym c.initialiser.ensures ∙ c.in_default-initialiser.is in absurd (cc))

pub returns-in_err-check_dep-clause-refused : goal.returns-in_err-check_dep-clause-refused
returns-in_err-check_dep-clause-refused c =
    let late : c.args.handle ≤ c.in-Some-initialiser.init = search rules in
    let fault = late_value c.args.module.now c.args.handle c.args.expression.now c.requires c.in-Some-initialiser.init (sym c.initialiser.ensures ∙ c.in-Some-initialiser.is) late in
    search rules

pub returns-clause-right : goal.returns-clause-right
returns-clause-right c =
    let there : Exists (module_counts c.args.module.now) c.in-Some.item = search rules in
    let before : c.in-Some-initialiser.init < c.args.handle = search rules in
    item_stands c.args.module.now c.args.handle c.args.expression.now c.requires c.in-Some.item (sym c.named_item.ensures ∙ c.in-Some.is) there
    (λ n begins. subst (λ (k : ℕ). k < c.args.handle) (same_Some c.in-Some-initialiser.init n (sym (sym c.initialiser.ensures ∙ c.in-Some-initialiser.is) ∙ begins)) before)
