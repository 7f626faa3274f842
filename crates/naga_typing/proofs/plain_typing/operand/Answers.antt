use Rattle.std.proofs.Common.{◌≡◌, ◌<◌, ℕ, List, length, get_or, refl, slice_get, Some, ap, subst, ◌∙◌}
use Rattle.std.specs.Option.{option_and_then}
use Rattle.std.proofs.lemmas.Option.{slice_get_read}
use Rattle.naga_arena.proofs.Elements.{all_at}
use Rattle.naga_ir.specs.ItemReferences.{global_lists}
use Rattle.naga_typing.specs.PlainLaws.{types_exist}
use Rattle.naga_typing.specs.Resolutions.{ResolutionExists, inner_in}
use Rattle.naga_typing.specs.declared.typifier.TypeResolution.{TypeResolution}
use Rattle.naga_typing.proofs.plain_typing.operand.Goals as goal

-- the type that is read is the one of the handle
read : (types : List TypeResolution) (index handle : ℕ) (r : TypeResolution) → index ≡ handle → handle < length types → r ≡ get_or types index r → slice_get types handle ≡ Some r
read types index handle r same within is = slice_get_read types (length types) handle r refl within (subst (λ (k : ℕ). r ≡ get_or types k r) same is)

pub inner_with-requires : goal.inner_with-requires
inner_with-requires c =
    let g = global_lists c.args.module.now in
    let r = c.index-earlier-index.result in
    let at = read c.args.earlier.now c.index.result c.args.handle r c.index.ensures.value c.requires.earlier c.index-earlier-index.is in
    types_exist g r (all_at (ResolutionExists g) c.args.earlier.now c.args.handle r c.requires.exist at)

pub returns : goal.returns
returns c =
    let r = c.index-earlier-index.result in
    let at = read c.args.earlier.now c.index.result c.args.handle r c.index.ensures.value c.requires.earlier c.index-earlier-index.is in
    ap (option_and_then (inner_in c.args.module.now.types)) at ∙ c.inner_with.ensures
