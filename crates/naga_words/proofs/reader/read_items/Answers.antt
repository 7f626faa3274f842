use Rattle.std.proofs.Common.{◌≡◌, ◌⊎◌, ◌<◌, ◌^◌, ◌-◌, ◌++◌, ◌∷◌, [], ap, append_assoc, arith, length, length-append, rules, subst, sym, ◌∙◌}
use Rattle.naga_words.specs.Words.{IsFirstUnreadable, NamesItem}
use Rattle.naga_words.specs.declared.reader.WordsError.TheVariants as error
use Rattle.naga_words.proofs.ReaderLaws.{after_front, empty_list, one_then, own_words}
use Rattle.naga_words.proofs.Unreadable.{names, stuck_at}
use Rattle.naga_words.proofs.reader.read_items.Goals as goal

pub items-init : goal.items-init
items-init c =
    let h = after_front c.args.words.now in record {
      front = h.0;
      items = [];
      words = h.1 ∙ ap (λ ws. h.0 ++ ws) (sym c.after_header-left.ensures);
      are = h.2;
      whole = h.3;
      added = c.requires;
    }

pub items-preserved : goal.items-preserved
items-preserved c =
    let i = c.items.invariant in
    let one = c.in-Ok.ensures.added i.items i.added in
    let own = own_words c.items.left.now one.item c.in-Ok.rest.now one.before in record {
      front = i.front ++ own.0;
      items = i.items ++ one.item ∷ [];
      words = i.words ∙ ap (λ ws. i.front ++ ws) own.1 ∙ sym (append_assoc i.front own.0 c.in-Ok.rest.now);
      are = one_then i.front own.0 i.items one.item i.are own.2;
      whole = λ none. i.whole (empty_list i.front (let split = length-append i.front own.0 in let all = ap length none in omega (arith, split, all)));
      added = one.added;
    }

pub returns-in-Err-clause-stuck : goal.returns-in-Err-clause-stuck
returns-in-Err-clause-stuck c =
    let i = c.items.invariant in
    let few : length c.args.words.now < 2 ^ 63 = search rules in
    let at : length c.args.words.now - length c.items.left.now ≡ length i.front =
    let all = ap length i.words in let split = length-append i.front c.items.left.now in omega (arith, all, split) in
    let some : ¬ (c.items.left.now ≡ []) = search rules in
    subst (λ e. (e ≡ error.OutOfMemory) ⊎ NamesItem e (IsFirstUnreadable c.args.words.now)) (sym c.error_at.ensures)
    (names c.args.words.now c.in-Err.unread _ (λ item. stuck_at c.args.words.now i.front c.items.left.now i.items c.items.draft _ i.words i.are i.added few at i.whole some (c.in-Err.ensures.refused i.items i.added item)))
