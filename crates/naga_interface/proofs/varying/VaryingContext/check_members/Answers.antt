use Rattle.std.proofs.Common.{rules, ◌≡◌, ◌<◌, ◌++◌, IsTrue, List, [], ◌∷◌, get_or, length, sym, subst, take, arith}
use Rattle.std.specs.List.{list_any}
use Rattle.std.specs.Prelude.{Err}
use Rattle.naga_arena.specs.Results.{IsResultOf}
use Rattle.naga_interface.specs.Varyings.{is_far, member_bindings, member_error, members_error}
use Rattle.naga_interface.specs.steps.BindingSets.{AreIn}
use Rattle.naga_interface.specs.steps.VaryingContexts.{varyings_in}
use Rattle.naga_ir.specs.declared.types.Binding.{Binding}
use Rattle.naga_ir.specs.declared.types.StructMember.{StructMember}
use Rattle.naga_types.specs.Checks.{ok_unless}
use Rattle.naga_types.specs.declared.error.VaryingError.TheVariants.{OutOfMemory}
use Rattle.naga_interface.proofs.Conditions.{answer_of_first, kept_or}
use Rattle.naga_interface.proofs.FirstErrors.{passed, refused}
use Rattle.naga_interface.proofs.MoreBindings.{member_more, member_passes}
use Rattle.naga_interface.proofs.varying.VaryingContext.check_members.Goals as goal

pub loop-index-preserved : goal.loop-index-preserved
loop-index-preserved c = λ earlier are.
    let s = varyings_in c.args.self in
    let members = c.args.members.now in
    let i = c.loop-index.index in
    let member : StructMember = c.index-members-index.result in
    let at : member ≡ get_or members i member = c.index-members-index.is in
    let within : i < length members = omega arith in
    let so_far = c.loop-index.invariant earlier are in
    let before = earlier ++ member_bindings (take i members) in (
      passed (member_error s earlier members) members i member within at so_far.0 (kept_or (IsTrue (list_any is_far (member_bindings (member ∷ [])))) OutOfMemory (member_error s earlier members (i, member)) (c.in_ok-check_member.ensures.checks before so_far.1)),
      subst (λ (bs : List Binding). AreIn bs c.check_member.new.before) (member_more earlier members i member within at) (c.in_ok-check_member.ensures.added before so_far.1),
    )

pub returns-in_err-check_member-clause-checks : goal.returns-in_err-check_member-clause-checks
returns-in_err-check_member-clause-checks c = λ earlier are.
    let s = varyings_in c.args.self in
    let members = c.args.members.now in
    let i = c.loop-index.index in
    let member : StructMember = c.index-members-index.result in
    let at : member ≡ get_or members i member = c.index-members-index.is in
    let within : i < length members = omega arith in
    let so_far = c.loop-index.invariant earlier are in
    let before = earlier ++ member_bindings (take i members) in
    let error = c.in_err-check_member.field-0.0 in
    let is : c.from_residual.result ≡ Err error = search rules in
    subst (IsResultOf (λ _. IsTrue (list_any is_far (member_bindings members))) OutOfMemory (ok_unless (members_error s earlier members) tt)) (sym is)
    (answer_of_first (IsTrue (list_any is_far (member_bindings (member ∷ [])))) (IsTrue (list_any is_far (member_bindings members))) OutOfMemory error (member_error s earlier members (i, member)) (members_error s earlier members)
    (refused (member_error s earlier members) members i member within at so_far.0)
    (member_passes is_far members i member within at)
    (c.in_err-check_member.ensures.checks before so_far.1))
