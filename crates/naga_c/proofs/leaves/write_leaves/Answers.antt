use Rattle.std.proofs.Common.{arith}
use Rattle.naga_leaves.specs.Leaf.{bytes_of}
use Rattle.naga_c.specs.Leaves.{buffers}
use Rattle.naga_c.proofs.CursorLaws.{writing_done, writing_full, writing_more, writing_over, writing_start, writing_undecided}
use Rattle.naga_c.proofs.leaves.write_leaves.Goals as goal

pub leaves-init : goal.leaves-init
leaves-init c = writing_start _ _ _ _ _ _ c.leaves_of-cursor.result c.leaves_of-cursor.ensures.cursor c.leaves_of-cursor.ensures.all

pub returns-then-not-push : goal.returns-then-not-push
returns-then-not-push c =
    let next = rw c.in-Ok-Some.field-0-is at c.in-Ok-Some.ensures.ok in
    writing_full _ _ _ _ _ _ c.leaves.cursor c.next.new.self (buffers c.leaves.leaves c.leaves.paths c.leaves.counts) _ c.path.result.now (bytes_of c.in-Ok-Some.leaf)
    c.leaves.invariant next c.path.ensures (omega (arith, c.if-counts-query.false)) (c.push.ensures.full c.if-not-push.true) (c.push.ensures.same c.if-not-push.true)

pub returns-then-counts-query : goal.returns-then-counts-query
returns-then-counts-query c =
    let next = rw c.in-Ok-Some.field-0-is at c.in-Ok-Some.ensures.ok in
    writing_over _ _ _ _ _ _ c.leaves.cursor c.next.new.self (buffers c.leaves.leaves c.leaves.paths c.leaves.counts) (bytes_of c.in-Ok-Some.leaf) c.leaves.invariant next (omega (arith, c.if-counts-query.true))

pub leaves-preserved : goal.leaves-preserved
leaves-preserved c =
    let next = rw c.in-Ok-Some.field-0-is at c.in-Ok-Some.ensures.ok in
    writing_more _ _ _ _ _ _ c.leaves.cursor c.next.new.self (buffers c.leaves.leaves c.leaves.paths c.leaves.counts) _ c.path.result.now (bytes_of c.in-Ok-Some.leaf)
    c.leaves.invariant c.next.ensures.cursor next c.path.ensures (c.push.ensures.added c.if-not-push.false)

pub returns-in-Ok-None : goal.returns-in-Ok-None
returns-in-Ok-None c =
    let end = rw c.in-Ok-None.field-0-is at c.in-Ok-None.ensures.ok in
    writing_done _ _ _ _ _ _ c.leaves.cursor c.next.new.self _ c.leaves.invariant end

pub returns-in-Err : goal.returns-in-Err
returns-in-Err c = writing_undecided _ _ _ _ _ _ c.leaves.cursor _ c.leaves.invariant
