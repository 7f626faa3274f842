use Rattle.std.proofs.Common.{◌≡◌, ◌<◌, ℕ, Bool, false, List, Some, length, subst, ap, ◌∙◌, arith}
use Rattle.std.specs.List.{slice_get}
use Rattle.std.proofs.lemmas.Bool.Decides.{nat_tests}
use Rattle.std.proofs.lemmas.Grind.{common_steps}
use Rattle.std.proofs.lemmas.Option.{gets}
use Rattle.naga_leaves.proofs.HasLeaves.{known_without}
use Rattle.naga_typing.specs.Context.{lists_of}
use Rattle.naga_typing.specs.Leaves.{elements}
use Rattle.naga_leaves.proofs.cursor.Place.has_no_leaf.Goals as goal

pub returns-in-Some-false : goal.returns-in-Some-false
returns-in-Some-false c none =
    let within : c.index.result < length c.as_slice.result.now = grind (arith, nat_tests, c.in-Some-false.ensures.lookup) in
    let there : slice_get c.as_slice.result.now c.index.result ≡ Some c.in-Some-false.field-0.now = grind (arith, common_steps, gets, within, c.in-Some-false.ensures.lookup) in
    let at : slice_get c.args.has_leaves.now.items c.args.self.now.part.ty ≡ Some false =
    subst (λ (xs : List Bool). slice_get xs c.args.self.now.part.ty ≡ Some false) c.as_slice.ensures
    (subst (λ (i : ℕ). slice_get c.as_slice.result.now i ≡ Some false) c.index.ensures.value (there ∙ ap Some c.in-Some-false.field-0-test)) in
    known_without (lists_of c.args.gctx.now) (elements (lists_of c.args.gctx.now) c.args.length) c.args.has_leaves.now.items c.requires.known c.args.self.now.part.ty at
