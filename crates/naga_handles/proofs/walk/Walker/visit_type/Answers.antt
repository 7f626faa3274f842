use Rattle.std.proofs.Common.{◌≡◌, ◌∙◌, ◌+◌, ◌<◌, ◌≤◌, ℕ, List, Option, Some, ap, get_or, length, refl, slice_get, sym, subst, rules}
use Rattle.std.proofs.lemmas.Option.{slice_get_read}
use Rattle.naga_ir.specs.ItemReferences.{GlobalLists, global_lists}
use Rattle.naga_ir.specs.Ranks.{reach}
use Rattle.naga_handles.specs.declared.walk.Walker.{Walker}
use Rattle.naga_handles.specs.steps.VisitState.{IsGreatest, IsTable, TypeOk, Visited}
use Rattle.naga_handles.proofs.OrderFaults.{late_part}
use Rattle.naga_handles.proofs.VisitLemmas.{resolves_none, resolves_passed, resolves_refused, visited_more}
use Rattle.naga_handles.proofs.walk.Walker.visit_type.Goals as goal
use Rattle.naga_handles.proofs.walk.Walker.visit_type.Goals.{in-Some-index+in_ok-check_dep, in_default-index}

pub returns-in_err-check_parts-clause-refused : goal.returns-in_err-check_parts-clause-refused
returns-in_err-check_parts-clause-refused c =
    let fault = late_part c.args.module.now c.args.handle c.type_at-ty.result.now _ c.type_at-ty.ensures.read c.in_err-check_parts.ensures.refused in
    search rules

pub returns-in_default-clause-visited : goal.returns-in_default-clause-visited
returns-in_default-clause-visited c =
    let stands : TypeOk c.args.module.now c.args.handle c.type_at-ty.result.now.inner = record { parts_before = c.in_ok-check_parts.ensures.before; size = c.in_ok-last.ensures.right } in
    let first = resolves_none c.args.module.now c.args.handle (sym c.in_ok-last.ensures.size ∙ c.in_default.is) in
    visited_more c.args.module.now c.args.handle c.type_at-ty.result.now c.args.self.now c.type_at-ty.new.self c.requires.visited c.type_at-ty.ensures.read stands first c.type_at-ty.ensures.counted

-- an entry that was read is the greatest type that the expressions up to its place name
entry_read : (g : GlobalLists) (c room i e : ℕ) (entries items : List (Option ℕ)) (entry : Option ℕ) → IsTable g entries c room → items ≡ entries → i ≡ e → e < length items → entry ≡ get_or items i entry → IsGreatest g (e + 1) entry
entry_read g c room i e entries items entry is same at within read =
    let here = slice_get_read items (length items) e entry refl within (subst (λ (k : ℕ). entry ≡ get_or items k entry) at read) in
    is.each e entry (subst (λ (xs : List (Option ℕ)). slice_get xs e ≡ Some entry) same here)

pub returns-in_err-check_dep-clause-refused : goal.returns-in_err-check_dep-clause-refused
returns-in_err-check_dep-clause-refused c =
    let m = c.args.module.now in
    let items = c.check_visited.new.self.table.items in
    let within : c.in-Some.last < length items = search rules in
    let same = ap (λ (v : Walker). v.table.items) c.in_ok-check_visited.ensures.right.1 in
    let greatest = entry_read (global_lists m) _ _ c.index.result c.in-Some.last _ items c.index-2.result.now c.requires.visited.names.1 same c.index.ensures.value within c.index-2.ensures in
    let late : c.args.handle ≤ c.in-Some-index.greatest = search rules in
    let fault = resolves_refused m c.args.handle c.in-Some.last c.index-2.result.now (sym c.in_ok-last.ensures.size ∙ c.in-Some.is) greatest c.in-Some-index.greatest c.in-Some-index.is late in
    search rules

pub returns-clause-visited : goal.returns-clause-visited
returns-clause-visited c =
    let m = c.args.module.now in
    let items = c.check_visited.new.self.table.items in
    let within : c.in-Some.last < length items = search rules in
    let same = ap (λ (v : Walker). v.table.items) c.in_ok-check_visited.ensures.right.1 in
    let greatest = entry_read (global_lists m) _ _ c.index.result c.in-Some.last _ items c.index-2.result.now c.requires.visited.names.1 same c.index.ensures.value within c.index-2.ensures in
    let before : reach c.index-2.result.now ≤ c.args.handle = elim c.match-index.branch [ in-Some-index+in_ok-check_dep k ↦ search rules | in_default-index k ↦ search rules ] in
    let first = resolves_passed m c.args.handle c.in-Some.last c.index-2.result.now (sym c.in_ok-last.ensures.size ∙ c.in-Some.is) greatest before in
    let stands : TypeOk m c.args.handle c.type_at-ty.result.now.inner = record { parts_before = c.in_ok-check_parts.ensures.before; size = c.in_ok-last.ensures.right } in
    let next = visited_more m c.args.handle c.type_at-ty.result.now c.args.self.now c.type_at-ty.new.self c.requires.visited c.type_at-ty.ensures.read stands first c.type_at-ty.ensures.counted in
    subst (Visited m (c.args.handle + 1)) (sym c.in_ok-check_visited.ensures.right.1) next
