use Rattle.std.proofs.Common.{rules, ℕ, List}
use Rattle.naga_handles.specs.steps.ItemChecks.{IsEntryPointResult}
use Rattle.naga_handles.proofs.CheckLemmas.{checks-called-map}
use Rattle.naga_handles.proofs.handles.validate_documented_entry_points.Goals as goal

pub returns : goal.returns
returns c =
    let m = c.args.«module».now in
    checks-called-map (IsEntryPointResult m) (λ (p : ℕ × List (List ℕ)). p.0) m.doc_comments.entry_points c.as_slice.ensures (λ y t k. search rules) c.try_each.ensures
