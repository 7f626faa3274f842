use Rattle.std.proofs.Common.{◌<◌, ◌+◌, ℕ, [], ◌∷◌, ◌++◌, Some, arith, subst, sym}
use Rattle.naga_ir.specs.ItemReferences.{global_lists}
use Rattle.naga_leaves.specs.Leaf.{bytes_of}
use Rattle.naga_cli.specs.Rows.{most_leaves, padding}
use Rattle.naga_cli.proofs.ShownLaws.{IsShowing, showing_cut, showing_done, showing_more, showing_start}
use Rattle.naga_cli.proofs.layout.rows_of.Goals as goal

pub loop-leaves-init : goal.loop-leaves-init
loop-leaves-init c = (
  c.new-rows.ensures.covered,
  showing_start _ _ _ c.leaves_of-leaves.result c.new-rows.result.rows.items c.leaves_of-leaves.ensures.cursor c.leaves_of-leaves.ensures.all c.new-rows.ensures.rows,
)

pub returns-then-shown-eq-MOST_LEAVES-clause-leaves : goal.returns-then-shown-eq-MOST_LEAVES-clause-leaves
returns-then-shown-eq-MOST_LEAVES-clause-leaves c =
    let next = rw c.in-Some.is at c.in_ok-leaf.ensures.ok in
    showing_cut _ _ _ c.loop-leaves.leaves c.next.new.self c.loop-leaves.shown c.loop-leaves.rows.rows.items (bytes_of c.in-Some.leaf) c.loop-leaves.invariant.1 next c.if-shown-eq-MOST_LEAVES.true

pub loop-leaves-preserved : goal.loop-leaves-preserved
loop-leaves-preserved c =
    let g = global_lists c.args.subject.now.«module» in
    let leaf = c.in-Some.leaf in
    let rows = c.loop-leaves.rows in
    let next = rw c.in-Some.is at c.in_ok-leaf.ensures.ok in
    let some_left : c.loop-leaves.shown < most_leaves = omega (arith, c.if-shown-eq-MOST_LEAVES.false, c.loop-leaves.invariant.1.few) in
    let more = showing_more g c.args.length c.args.ty c.loop-leaves.leaves c.next.new.self c.loop-leaves.shown rows.end rows.rows.items (bytes_of leaf) c.in_ok-row.row c.loop-leaves.invariant.1
    c.next.ensures.cursor next some_left c.in_ok-row.ensures in (
      c.in_ok-add.ensures.covered,
      subst (IsShowing g c.args.length c.args.ty c.next.new.self (c.loop-leaves.shown + 1)) (sym c.in_ok-add.ensures.rows)
          (subst (λ (size : ℕ). IsShowing g c.args.length c.args.ty c.next.new.self (c.loop-leaves.shown + 1) (rows.rows.items ++ (padding rows.end leaf.first ++ record { offset = leaf.first; size = size; leaf = Some c.in_ok-row.row } ∷ []))) (sym c.from.ensures) more),
    )

pub returns-clause-leaves : goal.returns-clause-leaves
returns-clause-leaves c =
    let end = rw c.in_default.is at c.in_ok-leaf.ensures.ok in
    showing_done _ _ _ c.loop-leaves.leaves c.next.new.self c.loop-leaves.shown c.loop-leaves.rows.rows.items c.loop-leaves.invariant.1 end
