use Rattle.std.proofs.Common.{◌≡◌, ◌<◌, ◌≤◌, ◌++◌, ◌∷◌, [], Err, arith, length, refl, rules, subst, sym}
use Rattle.std.specs.Prelude.{IfErr}
use Rattle.naga_arena.specs.Numbers.{largest_u32}
use Rattle.naga_draft.specs.Items.{function}
use Rattle.naga_draft.specs.Modules.{CanBegin}
use Rattle.naga_draft.specs.declared.item.Item.TheVariants.{Function}
use Rattle.naga_draft.specs.declared.unread.Unread.TheVariants as unread
use Rattle.naga_draft.proofs.OpenLaws.{function_added, function_too_many, head_refused}
use Rattle.naga_draft.proofs.draft.Draft.open_function.Goals as goal

pub returns-in_err-close_function-clause-refused : goal.returns-in_err-close_function-clause-refused
returns-in_err-close_function-clause-refused c = λ items h.
    let is : c.from_residual.result ≡ Err c.in_err-close_function.field-0.0 = search rules in
    subst (λ r. IfErr r (λ e. e ≡ unread.Item → ¬ (CanBegin (items ++ Function c.args.name ∷ [])))) (sym is)
    (λ item. head_refused items (Function c.args.name) (function c.args.name) refl (c.in_err-close_function.ensures.unfinished items h item))

pub returns-then-len-ge-MOST_ITEMS-clause-refused : goal.returns-then-len-ge-MOST_ITEMS-clause-refused
returns-then-len-ge-MOST_ITEMS-clause-refused c = λ items h item.
    let full : largest_u32 ≤ length c.close_function.new.self.«module».functions = omega (arith, c.if-len-ge-MOST_ITEMS.true, c.len.ensures.value) in
    function_too_many items c.close_function.new.self (c.in_ok-close_function.ensures.closed items h) c.args.name full

pub returns-clause-added : goal.returns-clause-added
returns-clause-added c = λ items h.
    let room : length c.close_function.new.self.«module».functions < largest_u32 = omega (arith, c.if-len-ge-MOST_ITEMS.false, c.len.ensures.value) in
    function_added items c.close_function.new.self (c.in_ok-close_function.ensures.closed items h) c.args.name c.new.result c.new.ensures room
