use Rattle.std.proofs.Common.{rules, arith, ◌≡◌, ◌∙◌, ap, sym, refl, ◌∷◌, ◌+◌, ◌++◌, Some, length}
use Rattle.std.specs.List.{concat}
use Rattle.naga_error_text.specs.Errors.{cause_of, error_of, error_parts}
use Rattle.naga_error_text.specs.Texts.{chain_text}
use Rattle.naga_error_text.proofs.TextLaws.{chain_step, written_whole}
use Rattle.naga_error_text.proofs.texts.+write_chain.Goals as goal

-- one number is taken, and its text is short
pub write_chain-requires : goal.write_chain-requires
write_chain-requires t c =
    let more : c.args.numbers.now ≡ c.in-Some.number.now ∷ c.in-Some.rest.now = search rules in
    let one : length c.args.numbers.now ≡ length c.in-Some.rest.now + 1 = grind (arith, more) in
    (search (rules, one), grind (arith, c.write_error-next.ensures.short, one, c.requires))

-- the error within is written after the text of the error
pub returns-in-Some-cause_of-clause-bytes : goal.returns-in-Some-cause_of-clause-bytes
returns-in-Some-cause_of-clause-bytes t c =
    let more : c.args.numbers.now ≡ c.in-Some.number.now ∷ c.in-Some.rest.now = search rules in
    let found : error_of c.args.family c.in-Some.number.now ≡ Some c.in-Some-error_of.error = search rules in
    let within : cause_of c.in-Some-error_of.error ≡ Some c.in-Some-cause_of.cause = search rules in
    let split = chain_step c.args.numbers.now c.in-Some.rest.now c.in-Some.number.now c.args.family c.in-Some-cause_of.cause c.args.values c.in-Some-error_of.error _ more found within refl
    ∙ ap (λ v. concat (error_parts c.in-Some-error_of.error c.args.values) ++ chain_text c.in-Some.rest.now c.in-Some-cause_of.cause v) (sym c.values_within.ensures) in
    written_whole _ _ _ _ _ _ _ _ c.write_error-next.ensures.place c.write_error-next.ensures.bytes c.write_chain.ensures.bytes split
