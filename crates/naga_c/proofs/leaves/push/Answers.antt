use Rattle.std.proofs.Common.{◌≡◌, ◌+◌, ◌-◌, ◌++◌, ℕ, List, ap, arith, drop, drop-drop, length, slice_set, take, ◌∙◌}
use Rattle.naga_leaves.specs.Leaf.{bytes_of}
use Rattle.naga_c.specs.Leaves.{Answer, buffers, row_of}
use Rattle.naga_c.specs.steps.Leaves.{answer}
use Rattle.naga_c.specs.declared.results.Counts.{Counts}
use Rattle.naga_c.specs.declared.results.LeafRow.{LeafRow}
use Rattle.naga_c.proofs.LeafLaws.{adds_one}
use Rattle.naga_c.proofs.leaves.push.Goals as goal

pub returns-clause-added : goal.returns-clause-added
returns-clause-added c =
    let path = c.args.visited.path.now in
    let paths = c.args.paths.now in
    let first = c.args.counts.now.paths in
    let a : Answer = answer c.args.visited.place path (bytes_of c.args.visited.leaf) in
    let long : c.in-Ok.path_length ≡ length path = c.in-Ok.ensures.1 in
    let end : c.in-Some.end ≡ first + length path = c.in-Some.ensures.1 in
    let count : c.in-Some.end - first ≡ length path = omega arith in
    λ _. adds_one a (buffers c.args.leaves.now paths c.args.counts.now) (buffers _ _ _)
    (ap (λ (n : ℕ). let row : LeafRow = record (row_of first a) { path_length = n } in slice_set c.args.leaves.now c.args.counts.now.leaves row) long)
    c.if-first-leaves.false
    (ap (λ (ps : List ℕ). take first paths ++ (ps ++ drop (c.in-Some.end - first) (drop first paths))) c.copy_from_slice.ensures.after
    ∙ ap (λ (ps : List ℕ). take first paths ++ (path ++ ps)) (drop-drop (c.in-Some.end - first) first paths ∙ ap (λ (n : ℕ). drop (first + n) paths) count))
    (ap (λ (n : ℕ). let counts : Counts = record { leaves = c.args.counts.now.leaves + 1; paths = n } in counts) end)
