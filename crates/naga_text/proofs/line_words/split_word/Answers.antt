use Rattle.std.proofs.Common.{◌≡◌, ◌∷◌, ◌++◌, ℕ, List, ◌+◌, ◌-◌, ◌<◌, ◌≤◌, ap, ◌∙◌, arith, drop, get_or, length, rules, subst, take}
use Rattle.std.proofs.lemmas.Bool.Decides.{nat_tests}
use Rattle.std.proofs.lemmas.List.{take_all}
use Rattle.std.proofs.lemmas.List.Elements.{All-more}
use Rattle.std.specs.List.{All}
use Rattle.naga_text.specs.Bytes.{line_feed, space}
use Rattle.naga_text.specs.steps.Lines.{IsInWord}
use Rattle.naga_text.proofs.PieceLaws.{ends_line, ends_text, goes_on, parts_at}
use Rattle.naga_text.proofs.line_words.split_word.Goals as goal

pub loop-i-preserved : goal.loop-i-preserved
loop-i-preserved c = All-more IsInWord c.args.bytes.now c.loop-i.i 0 c.loop-i-test.true c.loop-i.invariant (search rules, search rules)

-- a byte greater than a space is in a word
above_space : (b : ℕ) → space < b → IsInWord b
above_space b h = (grind (arith, nat_tests), grind (arith, nat_tests))

pub loop-i-preserved-then-byte-gt32 : goal.loop-i-preserved-then-byte-gt32
loop-i-preserved-then-byte-gt32 c = All-more IsInWord c.args.bytes.now c.loop-i.i 0 c.loop-i-test.true c.loop-i.invariant (above_space _ c.if-byte-gt32.true)

-- the bytes before the one at `i`, which is `b`, and those after it
whole : (bytes : List ℕ) (i b : ℕ) → i < length bytes → get_or bytes i 0 ≡ b → bytes ≡ take i bytes ++ b ∷ take (length bytes - (i + 1)) (drop (i + 1) bytes)
whole bytes i b within here = parts_at bytes i within ∙ ap (λ b. take i bytes ++ b ∷ take (length bytes - (i + 1)) (drop (i + 1) bytes)) here

pub returns-then-byte-eq32-clause-words : goal.returns-then-byte-eq32-clause-words
returns-then-byte-eq32-clause-words c = (goes_on c.args.bytes.now _ _ c.loop-i.invariant (whole c.args.bytes.now c.loop-i.i space c.loop-i-test.true c.if-byte-eq32.true)).0

pub returns-then-byte-eq32-clause-lines : goal.returns-then-byte-eq32-clause-lines
returns-then-byte-eq32-clause-lines c = (goes_on c.args.bytes.now _ _ c.loop-i.invariant (whole c.args.bytes.now c.loop-i.i space c.loop-i-test.true c.if-byte-eq32.true)).1

pub returns-then-byte-eq10-clause-words : goal.returns-then-byte-eq10-clause-words
returns-then-byte-eq10-clause-words c = (ends_line c.args.bytes.now _ _ c.loop-i.invariant (whole c.args.bytes.now c.loop-i.i line_feed c.loop-i-test.true c.if-byte-eq10.true)).0

pub returns-then-byte-eq10-clause-lines : goal.returns-then-byte-eq10-clause-lines
returns-then-byte-eq10-clause-lines c = (ends_line c.args.bytes.now _ _ c.loop-i.invariant (whole c.args.bytes.now c.loop-i.i line_feed c.loop-i-test.true c.if-byte-eq10.true)).1

-- all bytes are in a word
all_in_word : (bytes : List ℕ) (i : ℕ) → length bytes ≤ i → All IsInWord (take i bytes) → All IsInWord bytes
all_in_word bytes i all h = subst (All IsInWord) (take_all i bytes all) h

pub returns-clause-words : goal.returns-clause-words
returns-clause-words c = (ends_text c.args.bytes.now (all_in_word c.args.bytes.now c.loop-i.i (omega arith) c.loop-i.invariant)).0

pub returns-clause-lines : goal.returns-clause-lines
returns-clause-lines c = (ends_text c.args.bytes.now (all_in_word c.args.bytes.now c.loop-i.i (omega arith) c.loop-i.invariant)).1
