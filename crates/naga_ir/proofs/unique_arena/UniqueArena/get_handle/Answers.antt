use Rattle.std.proofs.Common.{◌∙◌, refl, arith}
use Rattle.naga_ir.proofs.OneMore.{go_on_in, has_index, index_below}
use Rattle.naga_ir.proofs.unique_arena.UniqueArena.get_handle.Goals as goal

pub find-requires-clause-links : goal.find-requires-clause-links
find-requires-clause-links c = go_on_in c.as_slice.result.now c.self.inside.types.items c.as_slice.ensures.value c.as_slice-3.result.now c.self.inside.links.items c.as_slice-3.ensures.value c.self.invariant.4

pub overflow_cast-index : goal.overflow_cast-index
overflow_cast-index c =
    let below = index_below c.as_slice.result.now c.self.inside.types.items c.as_slice.ensures.value c.args.value.now c.in-Ok.index c.self.invariant.1 c.in-Ok.ensures.found in
    omega (arith, below)

pub new-requires : goal.new-requires
new-requires c = index_below c.as_slice.result.now c.self.inside.types.items c.as_slice.ensures.value c.args.value.now c.in-Ok.index c.self.invariant.1 c.in-Ok.ensures.found

pub returns-in-Ok-clause-found : goal.returns-in-Ok-clause-found
returns-in-Ok-clause-found c = (λ _. has_index c.as_slice.result.now c.args.self.now (c.as_slice.ensures.value ∙ c.self.view_is) c.args.value.now c.in-Ok.index c.in-Ok.ensures.found, λ _. refl)
