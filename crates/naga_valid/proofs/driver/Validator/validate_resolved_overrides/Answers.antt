use Rattle.std.proofs.Common.{true, subst, sym}
use Rattle.std.proofs.lemmas.Result.{MatchResult-weaker}
use Rattle.naga_ir.proofs.Handles.{global_references_ok}
use Rattle.naga_ir.specs.ItemReferences.{global_lists}
use Rattle.naga_types.proofs.HostLeaves.{leaves_of_accepted}
use Rattle.naga_types.specs.HostLeaves.{AllLeavesAreSeparate}
use Rattle.naga_valid.proofs.OverrideValues.{accepted-too}
use Rattle.naga_valid.specs.State.{settings_of}
use Rattle.naga_valid.proofs.driver.Validator.validate_resolved_overrides.Goals as goal

pub returns-clause-unresolved : goal.returns-clause-unresolved
returns-clause-unresolved g c =
    let m = c.args.module.now in
    let resolves = g.T.Typing.resolves c.args.self.now.typing in
    MatchResult-weaker c.validate_impl.result c.validate_impl.ensures.result
    (λ info h. record { facts = h.facts; accepted = accepted-too resolves m (settings_of c.args.self.now true) h.facts h.accepted; infos_are = h.infos_are; lists_are = h.lists_are })
    (λ e h. tt)

pub returns-clause-leaves : goal.returns-clause-leaves
returns-clause-leaves g c =
    let m = c.args.module.now in
    MatchResult-weaker c.validate_impl.result c.validate_impl.ensures.result
    (λ info h. let types = h.accepted.known.types in subst (AllLeavesAreSeparate (global_lists m)) (sym h.infos_are) (leaves_of_accepted m c.args.self.now.capabilities true types.layouts h.facts.infos types.accepted))
    (λ e h. tt)

pub returns-clause-references : goal.returns-clause-references
returns-clause-references g c =
    MatchResult-weaker c.validate_impl.result c.validate_impl.ensures.result
    (λ info h. global_references_ok c.args.module.now h.accepted.known.types.accepted.laid_out.handles)
    (λ e h. tt)
