use Rattle.std.proofs.Common.{rules, ℕ, List}
use Rattle.naga_handles.specs.steps.ItemChecks.{IsMemberResult}
use Rattle.naga_handles.proofs.CheckLemmas.{checks-called-map}
use Rattle.naga_handles.proofs.handles.validate_documented_members.Goals as goal

pub returns : goal.returns
returns c =
    let m = c.args.«module».now in
    checks-called-map (IsMemberResult m) (λ (p : (ℕ × ℕ) × List (List ℕ)). p.0) m.doc_comments.struct_members c.as_slice.ensures (λ y t k. search rules) c.try_each.ensures
