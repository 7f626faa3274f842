use Rattle.std.proofs.Common.{◌==◌, ◌≡◌, false, subst, arith, rules}
use Rattle.std.proofs.lemmas.List.{take_all}
use Rattle.std.proofs.lemmas.List.Elements.{All-more}
use Rattle.std.proofs.lemmas.List.Splits.{slice_split_none}
use Rattle.std.specs.List.{All}
use Rattle.naga_text.proofs.PieceLaws.{split_at}
use Rattle.naga_text.proofs.pieces.split_first.Goals as goal

pub loop-i-preserved : goal.loop-i-preserved
loop-i-preserved c = All-more (λ b. (b == c.args.separator) ≡ false) c.args.bytes.now c.loop-i.i 0 c.loop-i-test.true c.loop-i.invariant (search rules)

pub returns-then-byte-separator-clause-more : goal.returns-then-byte-separator-clause-more
returns-then-byte-separator-clause-more c = split_at c.args.bytes.now c.loop-i.i c.args.separator c.loop-i-test.true c.loop-i.invariant c.if-byte-separator.true

pub returns-clause-last : goal.returns-clause-last
returns-clause-last c = slice_split_none (λ b. b == c.args.separator) c.args.bytes.now (subst (All (λ b. (b == c.args.separator) ≡ false)) (take_all c.loop-i.i c.args.bytes.now (omega arith)) c.loop-i.invariant)
