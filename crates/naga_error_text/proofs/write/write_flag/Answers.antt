use Rattle.std.proofs.Common.{◌≡◌, ◌∙◌, ap, sym, List, ℕ, ◌++◌, bit_and}
use Rattle.naga_error_text.specs.Flags.{flag_text, separator}
use Rattle.naga_error_text.specs.steps.Pieces.{row_of}
use Rattle.naga_error_text.proofs.TextLaws.{flag_there, written_whole}
use Rattle.naga_error_text.proofs.write.write_flag.Goals as goal

-- the name is written after what stands before it
pub returns-clause-bytes : goal.returns-clause-bytes
returns-clause-bytes c =
    let before : c.as_bytes.result.now ≡ separator (bit_and c.args.set c.args.flag.before) = c.as_bytes.ensures.value ∙ c.separator.ensures in
    let split : flag_text c.args.set (row_of c.args.flag) ≡ c.as_bytes.result.now ++ c.as_bytes-2.result.now =
    flag_there c.args.set (row_of c.args.flag) c.if-set-flag-eq0.false
    ∙ ap (λ (s : List ℕ). s ++ c.args.flag.name.now) (sym before)
    ∙ ap (λ (s : List ℕ). c.as_bytes.result.now ++ s) (sym c.as_bytes-2.ensures.value) in
    written_whole _ _ _ _ _ _ _ _ c.write_words-next.ensures.place c.write_words-next.ensures.bytes c.write_words.ensures.bytes split
