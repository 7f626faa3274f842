use Rattle.std.proofs.Common.{◌≡◌, ◌<◌, All, List, length, map, rules, subst, sym}
use Rattle.naga_ir.specs.ItemReferences.{expression_references}
use Rattle.naga_query.proofs.Calls.{can_resolve_call}
use Rattle.naga_query.proofs.answers.overloads.returned.Goals as goal
use Rattle.naga_query.specs.Calls.{AreExpressionsBelow}
use Rattle.naga_typing.specs.Typings.{CanResolve}
use Rattle.naga_typing.specs.declared.typifier.TypeResolution.{TypeResolution}
use Rattle.naga_typing.specs.declared.typifier.TypeResolution.TheVariants as resolution

pub resolve-requires : goal.resolve-requires
resolve-requires g c =
    let m = c.args.trial.«module».now in
    let list = c.args.list.now in
    let call = c.call_of-call.result in
    let exist : All (λ t. t < length m.types) list = search rules in
    let below : AreExpressionsBelow (length list) (expression_references call) = search rules in
    let are : c.deref.result.now ≡ map resolution.Handle list = search rules in
    subst (λ (earlier : List TypeResolution). CanResolve m call earlier) (sym are) (can_resolve_call m call list c.requires exist below)
