use Rattle.std.proofs.Common.{◌≡◌, ◌∷◌, ◌+◌, [], ap, below_more, drop, length, subst, sym, take, ◌∙◌, arith}
use Rattle.std.proofs.lemmas.Bool.{MatchBool-at_false, MatchBool-at_true}
use Rattle.naga_text.specs.LineWords.{first_line}
use Rattle.naga_text.specs.steps.SoFar.{finished}
use Rattle.naga_text.specs.Text.{IsReadable, IsText}
use Rattle.naga_text.specs.Words.{lines_of}
use Rattle.naga_text.proofs.PieceLaws.{first_piece, line_count}
use Rattle.naga_text.proofs.TextLaws.{all_taken, next_line, reads_next, stops_at, text_read}
use Rattle.naga_text.proofs.text.read_lines.Goals as goal

pub returns-then-not-read : goal.returns-then-not-read
returns-then-not-read c =
    let lines = lines_of c.args.text.now in
    let line = first_line c.lines.rest.now in
    let left = first_piece c.in_ok-read.others (lines_of c.lines.rest.now) line (λ rest. lines_of rest.now) c.in_ok-read.ensures.last c.in_ok-read.ensures.more in
    let stopped = MatchBool-at_false _ _ c.if-not-read.true (reads_next lines c.lines.count line left.0 c.lines.so_far c.read_next.new.so_far _ (left.1 ∙ c.lines.invariant.left) c.in_ok-read.ensures.read c.lines.invariant.so_far) in
    stops_at lines c.lines.count c.lines.so_far c.lines.invariant.so_far c.lines.invariant.before stopped

pub lines-preserved : goal.lines-preserved
lines-preserved c =
    let lines = lines_of c.args.text.now in
    let line = first_line c.lines.rest.now in
    let more = rw c.in-Some.is at c.in_ok-read.ensures.more in
    let left : line ∷ lines_of c.in-Some.others.now ≡ drop c.lines.count lines = sym more ∙ c.lines.invariant.left in
    let one_less = ap length more in
    let few = c.lines.invariant.few in record {
      left = sym (next_line lines c.lines.count line (lines_of c.in-Some.others.now) left).1;
      so_far = MatchBool-at_true _ _ c.if-not-read.false (reads_next lines c.lines.count line (lines_of c.in-Some.others.now) c.lines.so_far c.read_next.new.so_far _ left c.in_ok-read.ensures.read c.lines.invariant.so_far);
      before = below_more (λ k. IsReadable (take k lines)) c.lines.count c.lines.invariant.before (finished c.lines.so_far, text_read (take c.lines.count lines) c.lines.so_far c.lines.invariant.so_far);
      few = omega (arith, one_less, few);
    }

pub returns-in-None : goal.returns-in-None
returns-in-None c =
    let lines = lines_of c.args.text.now in
    let line = first_line c.lines.rest.now in
    let last = rw c.in-None.is at c.in_ok-read.ensures.last in
    let left : line ∷ [] ≡ drop c.lines.count lines = sym last ∙ c.lines.invariant.left in
    let read = MatchBool-at_true _ _ c.if-not-read.false (reads_next lines c.lines.count line [] c.lines.so_far c.read_next.new.so_far _ left c.in_ok-read.ensures.read c.lines.invariant.so_far) in
    let whole = all_taken lines c.lines.count line left in
    subst (IsText lines) (sym c.finish.ensures) (subst (λ l. IsText l (finished c.read_next.new.so_far)) whole (text_read (take (c.lines.count + 1) lines) c.read_next.new.so_far read))

-- one line more can be counted
pub overflow_add-result : goal.overflow_add-result
overflow_add-result c = let few = c.lines.invariant.few in let left = line_count c.lines.rest.now in let all = line_count c.args.text.now in omega (arith, few, left.0, all.1)

pub overflow_add-count : goal.overflow_add-count
overflow_add-count c = let few = c.lines.invariant.few in let left = line_count c.lines.rest.now in let all = line_count c.args.text.now in omega (arith, few, left.0, all.1)
