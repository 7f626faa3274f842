use Rattle.std.proofs.Common.{◌≡◌, ◌∙◌, ◌+◌, ◌<◌, [], ◌∷◌, ◌++◌, List, Contains, length, rules, slice_get, refl, sym, ap, subst, arith, length-append}
use Rattle.naga_arena.specs.Numbers.{largest_u32}
use Rattle.naga_arena.proofs.Progress.{slice_get-seam}
use Rattle.naga_ir.specs.declared.types.«Type».{«Type»}
use Rattle.naga_ir.specs.steps.TypePaths.{first_hash, IsLinked, links_of}
use Rattle.naga_ir.proofs.OneMore.{end_in, go_on_in, has_index, index_below, no_index, whole_alike, whole_with}
use Rattle.naga_ir.proofs.unique_arena.UniqueArena.insert.Goals as goal

pub find-requires-clause-links : goal.find-requires-clause-links
find-requires-clause-links c = go_on_in c.as_slice.result.now c.self.inside.types.items c.as_slice.ensures.value c.as_slice-3.result.now c.self.inside.links.items c.as_slice-3.ensures.value c.self.invariant.4

pub overflow_cast-index : goal.overflow_cast-index
overflow_cast-index c =
    let below = index_below c.as_slice.result.now c.self.inside.types.items c.as_slice.ensures.value c.args.value c.in-Ok.index c.self.invariant.1 c.in-Ok.ensures.found in
    omega (arith, below)

pub new-requires : goal.new-requires
new-requires c = index_below c.as_slice.result.now c.self.inside.types.items c.as_slice.ensures.value c.args.value c.in-Ok.index c.self.invariant.1 c.in-Ok.ensures.found

pub returns-in-Ok-clause-place : goal.returns-in-Ok-clause-place
returns-in-Ok-clause-place c none = absurd (none (has_index c.as_slice.result.now c.args.self.now (c.as_slice.ensures.value ∙ c.self.view_is) c.args.value c.in-Ok.index c.in-Ok.ensures.found))

pub returns-in-Ok-clause-appended : goal.returns-in-Ok-clause-appended
returns-in-Ok-clause-appended c none = absurd (none (has_index c.as_slice.result.now c.args.self.now (c.as_slice.ensures.value ∙ c.self.view_is) c.args.value c.in-Ok.index c.in-Ok.ensures.found))

pub returns-in_err-reserve-clause-present : goal.returns-in_err-reserve-clause-present
returns-in_err-reserve-clause-present c k at = absurd (no_index c.as_slice.result.now c.args.self.now (c.as_slice.ensures.value ∙ c.self.view_is) c.args.value k c.in-Err.ensures.absent at)

pub returns-in_err-add_link-clause-present : goal.returns-in_err-add_link-clause-present
returns-in_err-add_link-clause-present c k at = absurd (no_index c.as_slice.result.now c.args.self.now (c.as_slice.ensures.value ∙ c.self.view_is) c.args.value k c.in-Err.ensures.absent at)

pub returns-clause-present : goal.returns-clause-present
returns-clause-present c k at = absurd (no_index c.as_slice.result.now c.args.self.now (c.as_slice.ensures.value ∙ c.self.view_is) c.args.value k c.in-Err.ensures.absent at)

pub returns-clause-found : goal.returns-clause-found
returns-clause-found c =
    let types = c.self.inside.types.items in
    let new : c.push_reserved.new.self.items ≡ types ++ c.args.value ∷ [] = c.push_reserved.ensures.items ∙ ap (λ l. l ++ c.args.value ∷ []) c.reserve.ensures.types in
    let at : c.new-2.result ≡ length types = search rules in
    ap (λ l. slice_get l c.new-2.result) new ∙ ap (slice_get (types ++ c.args.value ∷ [])) at ∙ slice_get-seam types [] c.args.value

pub add_link-requires : goal.add_link-requires
add_link-requires c =
    let types = c.self.inside.types.items in
    let index : c.len-index.result ≡ length types = search rules in
    let before : c.in-Err.end.link < links_of (length types) = subst (λ (ts : List «Type»). c.in-Err.end.link < links_of (length ts)) c.as_slice.ensures.value c.in-Err.ensures.before in record {
      node = omega (arith, index, c.requires, ap length c.self.view_is);
      many = omega (arith, index, (c.self.invariant.4).0);
      link = omega (arith, index, before);
    }

pub invariant_of-self : goal.invariant_of-self
invariant_of-self c =
    let i = c.self.inside in
    whole_alike i.types.items c.reserve.new.types.items (length i.span_info.items) (length c.reserve.new.span_info.items) i.hashes.items c.reserve.new.hashes.items i.links.items i.links.items
    c.reserve.ensures.types (ap length c.reserve.ensures.span_info) c.reserve.ensures.hashes refl c.self.invariant

pub invariant_of-self-in_err-add_link : goal.invariant_of-self-in_err-add_link
invariant_of-self-in_err-add_link c =
    let i = c.self.inside in
    whole_alike i.types.items c.reserve.new.types.items (length i.span_info.items) (length c.reserve.new.span_info.items) i.hashes.items c.reserve.new.hashes.items i.links.items c.add_link.new.links.items
    c.reserve.ensures.types (ap length c.reserve.ensures.span_info) c.reserve.ensures.hashes c.in_err-add_link.ensures.refused c.self.invariant

pub invariant_of-self-2 : goal.invariant_of-self-2
invariant_of-self-2 c =
    let types = c.self.inside.types.items in
    let spans = c.self.inside.span_info.items in
    let hashes = c.self.inside.hashes.items in
    let links = c.self.inside.links.items in
    let more = c.add_link.new.links.items in
    let value = c.args.value in
    let end = c.in-Err.end in
    let searched : c.as_slice.result.now ≡ types = c.as_slice.ensures.value in
    let new_types : c.push_reserved.new.self.items ≡ types ++ value ∷ [] = c.push_reserved.ensures.items ∙ ap (λ l. l ++ value ∷ []) c.reserve.ensures.types in
    let new_spans : c.push_reserved-2.new.self.items ≡ spans ++ c.args.span ∷ [] = c.push_reserved-2.ensures.items ∙ ap (λ l. l ++ c.args.span ∷ []) c.reserve.ensures.span_info in
    let count : length c.push_reserved-2.new.self.items ≡ length spans + 1 = ap length new_spans ∙ length-append spans (c.args.span ∷ []) in
    let new_hashes : c.push_reserved-3.new.self.items ≡ hashes ++ first_hash value ∷ [] =
    c.push_reserved-3.ensures.items ∙ ap (λ l. l ++ end.hash ∷ []) c.reserve.ensures.hashes ∙ ap (λ h. hashes ++ h ∷ []) c.in-Err.ensures.hash in
    let index : c.len-index.result ≡ length types = search rules in
    let linked : IsLinked links more end.link (length types) = subst (IsLinked links more end.link) index c.in_ok-add_link.ensures.linked in
    let room : length types < largest_u32 = omega (arith, c.requires, ap length c.self.view_is) in
    let none = λ (has : Contains types value). c.in-Err.ensures.absent (subst (λ l. Contains l value) (sym searched) has) in
    let before : end.link < links_of (length types) = subst (λ (ts : List «Type»). end.link < links_of (length ts)) searched c.in-Err.ensures.before in
    whole_alike
    (types ++ value ∷ [])
    c.push_reserved.new.self.items
    (length spans + 1)
    (length c.push_reserved-2.new.self.items)
    (hashes ++ first_hash value ∷ [])
    c.push_reserved-3.new.self.items
    more
    more
    new_types
    count
    new_hashes
    refl
    (whole_with types (length spans) hashes links more value end.link c.self.invariant room none (end_in c.as_slice.result.now types searched c.as_slice-3.result.now links value end.link c.as_slice-3.ensures.value c.in-Err.ensures.link) before linked)
