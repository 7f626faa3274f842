use Rattle.std.proofs.Common.{◌≡◌, ◌++◌, ◌∷◌, [], Err, refl, rules, subst, sym}
use Rattle.std.specs.Prelude.{IfErr}
use Rattle.naga_draft.specs.Items.{entry_point}
use Rattle.naga_draft.specs.Modules.{CanBegin}
use Rattle.naga_draft.specs.declared.item.Item.TheVariants.{EntryPoint}
use Rattle.naga_draft.specs.declared.unread.Unread.TheVariants as unread
use Rattle.naga_draft.proofs.OpenLaws.{entry_added, head_refused}
use Rattle.naga_draft.proofs.draft.Draft.open_entry_point.Goals as goal

pub returns-in_err-close_function-clause-refused : goal.returns-in_err-close_function-clause-refused
returns-in_err-close_function-clause-refused c = λ items h.
    let is : c.from_residual.result ≡ Err c.in_err-close_function.field-0.0 = search rules in
    subst (λ r. IfErr r (λ e. e ≡ unread.Item → ¬ (CanBegin (items ++ EntryPoint c.args.name ∷ [])))) (sym is)
    (λ item. head_refused items (EntryPoint c.args.name) (entry_point c.args.name) refl (c.in_err-close_function.ensures.unfinished items h item))

pub returns-clause-added : goal.returns-clause-added
returns-clause-added c = λ items h. entry_added items c.close_function.new.self (c.in_ok-close_function.ensures.closed items h) c.args.name c.new_entry.result c.new_entry.ensures
