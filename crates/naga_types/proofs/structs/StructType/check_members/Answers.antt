use Rattle.std.proofs.Common.{rules, ◌≡◌, ◌∙◌, ◌+◌, ◌<◌, ℕ, List, Some, add-one, ap, get_or, length, refl, subst, sym, arith}
use Rattle.std.proofs.lemmas.Option.{slice_get_read}
use Rattle.std.specs.Prelude.{Err}
use Rattle.naga_ir.specs.declared.types.StructMember.{StructMember}
use Rattle.naga_types.specs.RuleResults.{IsRuleResult}
use Rattle.naga_types.specs.Checks.{first, first_error_or}
use Rattle.naga_types.specs.Layouts.{before}
use Rattle.naga_types.specs.StructRule as rule
use Rattle.naga_types.specs.steps.Structs.{sources_of, surroundings_of}
use Rattle.naga_types.proofs.FirstLemmas.{passed, refused}
use Rattle.naga_types.proofs.CheckLemmas.{not_refused, result_first}
use Rattle.naga_types.proofs.structs.StructType.check_members.Goals as goal

-- the member before the next one is the one at a place
next : (members : List StructMember) (i : ℕ) (m : StructMember) → m ≡ get_or members i m → i < length members → before members (i + 1) ≡ Some m
next members i m at within = rw add-one (slice_get_read members (length members) i m refl within at)

pub returns-in_err-check_member : goal.returns-in_err-check_member
returns-in_err-check_member c =
    let s = surroundings_of c.args.self.now in
    let members = c.args.self.now.members.now in
    let refusal = rule.member_error s members c.args.self.now.span in
    let error = c.in_err-check_member.field-0.0 in
    let member : StructMember = get_or members c.loop-index.index c.index-self-index.result in
    let at : member ≡ get_or members c.loop-index.index member = ap (λ (m : StructMember). get_or members c.loop-index.index m) c.index-self-index.is in
    let within : c.loop-index.index < length members = omega (arith, c.loop-index-test.true, c.loop-index.auto.index-end) in
    let is : c.from_residual.result ≡ Err error = search rules in
    subst (IsRuleResult (first_error_or (rule.member_errors s members c.args.self.now.span) (sources_of members))) (sym is)
    (result_first (refusal (c.loop-index.index, member)) (first (rule.member_errors s members c.args.self.now.span)) tt (sources_of members) error
    (λ e some. refused refusal members c.loop-index.index member within at c.loop-index.invariant.left e some)
    c.in_err-check_member.ensures.checks)

pub loop-index-preserved : goal.loop-index-preserved
loop-index-preserved c =
    let s = surroundings_of c.args.self.now in
    let members = c.args.self.now.members.now in
    let refusal = rule.member_error s members c.args.self.now.span in
    let member : StructMember = get_or members c.loop-index.index c.index-self-index.result in
    let at : member ≡ get_or members c.loop-index.index member = ap (λ (m : StructMember). get_or members c.loop-index.index m) c.index-self-index.is in
    let within : c.loop-index.index < length members = omega (arith, c.loop-index-test.true, c.loop-index.auto.index-end) in
    record {
      left = passed refusal members c.loop-index.index member within at c.loop-index.invariant.left (not_refused _ _ _ c.in_ok-check_member.ensures.checks);
      end = c.end_of-end.ensures ∙ sym (ap (rule.end_in s) (next members c.loop-index.index member at within));
      noted = c.in_ok-check_member.ensures.noted;
    }
