use Rattle.std.proofs.Common.{◌≡◌, ◌++◌, ◌∷◌, ◌/◌, ◌%◌, ◌≤◌, ◌∙◌, ℕ, [], Err, List, Some, ap, length, rules, subst, sym, take}
use Rattle.std.specs.Prelude.{IfErr}
use Rattle.std.proofs.lemmas.Option.{same_Some}
use Rattle.naga_draft.specs.Modules.{CanBegin}
use Rattle.naga_draft.specs.declared.item.Item.{Item}
use Rattle.naga_draft.specs.declared.unread.Unread.TheVariants as unread
use Rattle.naga_words.specs.Items.{item_of}
use Rattle.naga_words.specs.Words.{first_item}
use Rattle.naga_words.proofs.ReaderLaws.{item_at, item_is}
use Rattle.naga_words.proofs.ItemLaws.{item_plain}
use Rattle.naga_words.proofs.reader.read_item.Goals as goal

pub returns-in_err-add-clause-refused : goal.returns-in_err-add-clause-refused
returns-in_err-add-clause-refused c = λ items h.
    let is : c.from_residual-in_err-add.result ≡ Err c.in_err-add.field-0.0 = search rules in
    let all : c.args.words.now ≡ c.in-Some.head.now ∷ c.in-Some.rest.now = search rules in
    subst (λ r. IfErr r (λ e. e ≡ unread.Item → (item : Item) (rest : List ℕ) → first_item c.args.words.now ≡ Some (item, rest) → ¬ (CanBegin (items ++ item ∷ [])))) (sym is)
    (λ stuck item rest before.
    let at = item_at c.in-Some.head.now c.in-Some.rest.now item rest (ap first_item (sym all) ∙ before) in
    let same = same_Some c.in_ok-item.field-0 item (sym c.in_ok-item.ensures.found ∙ ap (item_of (c.in-Some.head.now % 256)) c.split_at.ensures.front ∙ at.item_is) in
    subst (λ x. ¬ (CanBegin (items ++ x ∷ []))) same (c.in_err-add.ensures.refused items h stuck))

pub returns-clause-added : goal.returns-clause-added
returns-clause-added c = λ items h.
    let all : c.args.words.now ≡ c.in-Some.head.now ∷ c.in-Some.rest.now = search rules in
    let fits : c.in-Some.head.now / 256 ≤ length c.in-Some.rest.now = search rules in
    let found = ap (item_of (c.in-Some.head.now % 256)) (sym c.split_at.ensures.front) ∙ c.in_ok-item.ensures.found in record {
      item = c.in_ok-item.field-0;
      before = ap first_item all ∙ item_is c.in-Some.head.now c.in-Some.rest.now c.in_ok-item.field-0 fits found ∙ ap (λ rest. Some (c.in_ok-item.field-0, rest)) (sym c.split_at.ensures.back);
      added = c.in_ok-add.ensures.added items h (item_plain (c.in-Some.head.now % 256) (take (c.in-Some.head.now / 256) c.in-Some.rest.now) c.in_ok-item.field-0 found);
    }
