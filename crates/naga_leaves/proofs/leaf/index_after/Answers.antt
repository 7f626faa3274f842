use Rattle.std.proofs.Common.{ℕ, ◌+◌, Some, sym, subst, ap, ◌∙◌, arith}
use Rattle.std.specs.Option.{option_map}
use Rattle.naga_ir.specs.declared.types.«Type».{«Type»}
use Rattle.naga_leaves.proofs.Places.{after_elements, after_one}
use Rattle.naga_leaves.specs.steps.Steps.{IsIndexAfter}
use Rattle.naga_typing.specs.Context.{lists_of}
use Rattle.naga_leaves.proofs.leaf.index_after.Goals as goal

pub returns-in-Array : goal.returns-in-Array
returns-in-Array c e =
    after_elements (lists_of c.args.gctx.now) e c.args.ty c.args.index _ _ _ (ap (option_map (λ (ty : «Type»). ty.inner)) c.index.ensures ∙ ap Some c.in-Array.is) (omega arith)

pub returns-in_default : goal.returns-in_default
returns-in_default c e =
    subst (λ (i : ℕ). IsIndexAfter (lists_of c.args.gctx.now) e c.args.ty c.args.index (i + 1)) (sym c.from.ensures) (after_one (lists_of c.args.gctx.now) e c.args.ty c.args.index (omega arith))
