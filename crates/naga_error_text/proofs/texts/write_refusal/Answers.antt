use Rattle.std.proofs.Common.{rules, ◌≡◌, ◌∙◌, ◌∷◌, ap, sym, length}
use Rattle.naga_error_text.proofs.TextLaws.{four_items, refusal_chain}
use Rattle.naga_error_text.proofs.WritingLaws.{from_zero, written_all}
use Rattle.naga_error_text.proofs.texts.write_refusal.Goals as goal

-- the stage and its errors are the numbers of the whole text
pub returns-clause-length : goal.returns-clause-length
returns-clause-length c =
    let four : length c.args.refusal.errors ≡ 4 = search rules in
    let whole = refusal_chain c.args.refusal.stage c.args.refusal.errors _ c.args.refusal.values c.if-refusal-eq0.false (ap (λ es. c.args.refusal.stage ∷ es) (sym (four_items c.args.refusal.errors four))) in
    c.write_chain.ensures.place ∙ from_zero _ ∙ ap length whole

-- the same of the bytes
pub returns-clause-bytes : goal.returns-clause-bytes
returns-clause-bytes c =
    let four : length c.args.refusal.errors ≡ 4 = search rules in
    let whole = refusal_chain c.args.refusal.stage c.args.refusal.errors _ c.args.refusal.values c.if-refusal-eq0.false (ap (λ es. c.args.refusal.stage ∷ es) (sym (four_items c.args.refusal.errors four))) in
    written_all _ _ c.args.buffer.now _ whole c.write_chain.ensures.bytes
