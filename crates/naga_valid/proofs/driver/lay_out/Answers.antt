use Rattle.std.proofs.Common.{rules, ◌≡◌, ◌∙◌, ⊎_elim, inr, subst, sym}
use Rattle.naga_arena.specs.Results.{IsFirstError}
use Rattle.naga_arena.specs.Span.{inner_of}
use Rattle.naga_ir.specs.Handles.{GlobalReferencesOk}
use Rattle.naga_ir.specs.ItemReferences.{GlobalLists}
use Rattle.naga_ir.proofs.Handles.{global_references_ok}
use Rattle.naga_typing.specs.Layout.{layout_results}
use Rattle.naga_typing.specs.declared.layouter.LayoutErrorInner.TheVariants as why
use Rattle.naga_valid.specs.Accepted.{IsLayoutRefusal, Refuses}
use Rattle.naga_valid.specs.declared.error.ValidationError.TheVariants.{Layouter}
use Rattle.naga_valid.proofs.Refusals.{layout_refuses}
use Rattle.naga_valid.proofs.driver.lay_out.Goals as goal

pub update-requires : goal.update-requires
update-requires c = subst GlobalReferencesOk (sym c.to_ctx.ensures.lists) (global_references_ok c.args.module.now c.requires)

pub returns-in-TooLarge : goal.returns-in-TooLarge
returns-in-TooLarge c =
    let m = c.args.module.now in
    let e = c.in-Err.error in
    let other : ¬ (c.in-Err.error.inner ≡ why.OutOfMemory) = search rules in
    let First : GlobalLists → Type 0 = λ g. IsFirstError (layout_results g) c.in-Err.error.ty c.in-Err.error.inner in
    let first = ⊎_elim (λ (o : c.in-Err.error.inner ≡ why.OutOfMemory). absurd (other o)) (λ (f : First _). f) c.in-Err.ensures.layouts in
    let refusal : IsLayoutRefusal m e = (c.requires, subst First c.to_ctx.ensures.lists first) in
    let is : inner_of c.with_span.result ≡ Layouter e = c.with_span.ensures.inner ∙ c.new-in-TooLarge.ensures.inner ∙ c.from.ensures in
    inr (λ resolves settings. subst (Refuses resolves m settings) (sym is) (layout_refuses resolves m settings e refusal))
