use Rattle.naga_leaves.specs.Leaf.{bytes_of}
use Rattle.naga_c.proofs.LeafCountLaws.{counting_done, counting_more, counting_over, counting_start}
use Rattle.naga_c.proofs.leaf_counts.count_type.Goals as goal

pub leaves-init : goal.leaves-init
leaves-init c = counting_start _ _ _ _ _ c.leaves_of-cursor.result c.leaves_of-cursor.ensures.cursor c.leaves_of-cursor.ensures.all

pub leaves-preserved : goal.leaves-preserved
leaves-preserved c =
    let next = rw c.in-Ok-Some.field-0-is at c.in-Ok-Some.ensures.ok in
    counting_more _ _ _ _ _ c.leaves.cursor c.next.new.self c.leaves.counts c.in-Some.more c.path.result.now (bytes_of c.in-Ok-Some.field-0-0) c.leaves.invariant c.next.ensures.cursor next c.path.ensures c.in-Some.ensures

pub returns-in-None : goal.returns-in-None
returns-in-None c =
    let next = rw c.in-Ok-Some.field-0-is at c.in-Ok-Some.ensures.ok in
    counting_over _ _ _ _ _ c.leaves.cursor c.next.new.self c.leaves.counts c.path.result.now (bytes_of c.in-Ok-Some.field-0-0) c.leaves.invariant next c.path.ensures c.in-None.ensures

pub returns-in-Ok-None : goal.returns-in-Ok-None
returns-in-Ok-None c =
    let end = rw c.in-Ok-None.field-0-is at c.in-Ok-None.ensures.ok in
    counting_done _ _ _ _ _ c.leaves.cursor c.next.new.self c.leaves.counts c.leaves.invariant end
