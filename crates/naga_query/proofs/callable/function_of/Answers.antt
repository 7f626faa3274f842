use Rattle.std.proofs.Common.{◌≡◌, ◌<◌, ◌∙◌, List, Some, ap, inr, length, refl, rules, slice_get, subst, sym}
use Rattle.std.proofs.lemmas.Option.{slice_get-get_or}
use Rattle.naga_ir.specs.declared.ir.EntryPoint.{EntryPoint}
use Rattle.naga_query.proofs.callable.function_of.Goals as goal

pub returns-in_ok-entry_point-in-EntryPoint : goal.returns-in_ok-entry_point-in-EntryPoint
returns-in_ok-entry_point-in-EntryPoint c =
    let m = c.args.«module».now in
    let e = c.in_ok-entry_point-in-EntryPoint.entry_point.now in
    let i = c.in-EntryPoint.index in
    let entry_points : List EntryPoint = c.as_slice-in-EntryPoint.result.now in
    let same : entry_points ≡ m.entry_points = c.as_slice-in-EntryPoint.ensures in
    let found = c.in_ok-entry_point-in-EntryPoint.ensures.lookup in
    let within : i < length entry_points = search rules in
    let there : slice_get entry_points i ≡ Some e = slice_get-get_or entry_points i e within ∙ ap Some (sym found.1) in
    let at : slice_get m.entry_points i ≡ Some e = subst (λ (l : List EntryPoint). slice_get l i ≡ Some e) same there in
    let all : c.len.result ≡ length m.functions = search rules in
    inr (i, e, at, refl, all)
