use Rattle.std.proofs.Common.{◌≡◌, ◌<◌, ℕ, List, length, get_or, refl, slice_get, Some, ap, subst, sym, ◌∙◌}
use Rattle.std.specs.Option.{option_and_then}
use Rattle.std.proofs.lemmas.Option.{slice_get_read}
use Rattle.naga_arena.proofs.Elements.{all_at}
use Rattle.naga_ir.proofs.Handles.{global_references_ok}
use Rattle.naga_ir.specs.ItemReferences.{global_lists}
use Rattle.naga_info.proofs.Forms.{form_exists}
use Rattle.naga_info.proofs.context.FunctionContext.type_of.Goals as goal
use Rattle.naga_info.specs.Surroundings.{form_in}
use Rattle.naga_typing.specs.PlainLaws.{types_exist}
use Rattle.naga_typing.specs.Resolutions.{ResolutionExists, inner_in}
use Rattle.naga_typing.specs.declared.typifier.TypeResolution.{TypeResolution}

-- the type that is read is the one of the handle
read : (types given : List TypeResolution) (index handle : ℕ) (r : TypeResolution) → given ≡ types → index ≡ handle → handle < length types → r ≡ get_or given index r → slice_get types handle ≡ Some r
read types given index handle r all same within is =
    slice_get_read types (length types) handle r refl within (subst (λ (k : ℕ). r ≡ get_or types k r) same (subst (λ (ts : List TypeResolution). r ≡ get_or ts index r) all is))

pub inner_with-requires : goal.inner_with-requires
inner_with-requires c =
    let types = c.args.self.info.now.types in
    let g = global_lists c.args.self.«module».now in
    let r = c.index-as_slice-index.result in
    let at = read types c.as_slice.result.now c.index.result c.args.operand r c.as_slice.ensures c.index.ensures.value c.requires.known c.index-as_slice-index.is in
    types_exist g r (all_at (ResolutionExists g) types c.args.operand r c.requires.sound.types_exist at)

pub returns-clause-form : goal.returns-clause-form
returns-clause-form c =
    let types = c.args.self.info.now.types in
    let r = c.index-as_slice-index.result in
    let at = read types c.as_slice.result.now c.index.result c.args.operand r c.as_slice.ensures c.index.ensures.value c.requires.known c.index-as_slice-index.is in
    sym (ap form_in (ap (option_and_then (inner_in c.args.self.«module».now.types)) at ∙ c.inner_with.ensures))

pub returns-clause-exist : goal.returns-clause-exist
returns-clause-exist c =
    let types = c.args.self.info.now.types in
    let m = c.args.self.«module».now in
    let g = global_lists m in
    let r = c.index-as_slice-index.result in
    let at = read types c.as_slice.result.now c.index.result c.args.operand r c.as_slice.ensures c.index.ensures.value c.requires.known c.index-as_slice-index.is in
    form_exists g (global_references_ok m c.requires.sound.handles) r c.inner_with.result.now (all_at (ResolutionExists g) types c.args.operand r c.requires.sound.types_exist at) c.inner_with.ensures
