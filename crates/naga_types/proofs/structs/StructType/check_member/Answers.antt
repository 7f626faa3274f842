use Rattle.std.proofs.Common.{rules, ◌≡◌, ◌+◌, ◌<◌, ◌∙◌, None, Some, ap, get_or, inl, length, sym, subst, take}
use Rattle.std.specs.Prelude.{Err, OnOk}
use Rattle.std.proofs.lemmas.Option.{get_or_from_slice_get, slice_get_within}
use Rattle.naga_flags.specs.Flags.{has}
use Rattle.naga_types.specs.FormFlags.{member_flags}
use Rattle.naga_types.specs.RuleResults.{IsRuleResult}
use Rattle.naga_types.specs.Checks.{first, ok_unless, first_error_or, require}
use Rattle.naga_types.specs.StructRule as rule
use Rattle.naga_types.specs.Surroundings.{flags_at}
use Rattle.naga_types.specs.declared.error.TypeError.TheVariants.{InvalidData}
use Rattle.naga_types.specs.declared.structs.Sources.{Sources}
use Rattle.naga_types.specs.steps.Structs.{is_noted, sources_of, surroundings_of, with_member}
use Rattle.naga_types.proofs.CheckLemmas.{broken, fourth, none_broken, second, third}
use Rattle.naga_types.proofs.SourceLemmas.{same_conditions, sources_more}
use Rattle.naga_types.proofs.structs.StructType.check_member.Goals as goal

pub returns-in_err-note-clause-checks : goal.returns-in_err-note-clause-checks
returns-in_err-note-clause-checks c =
    let s = surroundings_of c.args.self.now in
    let members = c.args.self.now.members.now in
    let error = c.in_err-note.field-0.0 in
    let is : c.from_residual.result ≡ Err error = search rules in
    let known : require (has (flags_at s c.args.member.now.ty) member_flags) (InvalidData c.args.member.now.ty) ≡ None = search rules in
    let conditions = λ (sources : Sources). first (rule.source_checks s.capabilities (is_noted sources) (rule.source_of c.args.member.now.binding)) in
    let noted : conditions c.args.sources.now ≡ Some error = broken _ _ _ c.in_err-note.ensures.checks in
    let refused = sym (same_conditions s.capabilities (take c.args.index members) (rule.source_of c.args.member.now.binding)) ∙ sym (ap conditions c.requires.noted) ∙ noted in
    subst (IsRuleResult (first_error_or (rule.member_checks s members c.args.self.now.span (c.args.index, c.args.member.now)) tt)) (sym is)
    (inl (sym (ap (λ o. ok_unless o tt) (second _ _ (first (rule.place_checks s members c.args.self.now.span c.args.index c.args.member.now)) (rule.member_size_error s members c.args.index c.args.member.now) error known refused))))

pub returns-in_err-check_place-clause-checks : goal.returns-in_err-check_place-clause-checks
returns-in_err-check_place-clause-checks c =
    let s = surroundings_of c.args.self.now in
    let members = c.args.self.now.members.now in
    let error = c.in_err-check_place.field-0.0 in
    let is : c.from_residual-in_err-check_place.result ≡ Err error = search rules in
    let known : require (has (flags_at s c.args.member.now.ty) member_flags) (InvalidData c.args.member.now.ty) ≡ None = search rules in
    let conditions = λ (sources : Sources). first (rule.source_checks s.capabilities (is_noted sources) (rule.source_of c.args.member.now.binding)) in
    let free = sym (same_conditions s.capabilities (take c.args.index members) (rule.source_of c.args.member.now.binding)) ∙ sym (ap conditions c.requires.noted) ∙ none_broken _ _ _ c.in_ok-note.ensures.checks in
    subst (IsRuleResult (first_error_or (rule.member_checks s members c.args.self.now.span (c.args.index, c.args.member.now)) tt)) (sym is)
    (inl (sym (ap (λ o. ok_unless o tt) (third _ _ _ (rule.member_size_error s members c.args.index c.args.member.now) error known free (broken _ _ _ c.in_err-check_place.ensures)))))

pub returns-clause-checks : goal.returns-clause-checks
returns-clause-checks c =
    let s = surroundings_of c.args.self.now in
    let members = c.args.self.now.members.now in
    let known : require (has (flags_at s c.args.member.now.ty) member_flags) (InvalidData c.args.member.now.ty) ≡ None = search rules in
    let conditions = λ (sources : Sources). first (rule.source_checks s.capabilities (is_noted sources) (rule.source_of c.args.member.now.binding)) in
    let free = sym (same_conditions s.capabilities (take c.args.index members) (rule.source_of c.args.member.now.binding)) ∙ sym (ap conditions c.requires.noted) ∙ none_broken _ _ _ c.in_ok-note.ensures.checks in
    let last = fourth _ _ _ (rule.member_size_error s members c.args.index c.args.member.now) known free (none_broken _ _ _ c.in_ok-check_place.ensures) in
    subst (λ o. IsRuleResult (ok_unless o tt) c.check_size.result) (sym last) c.check_size.ensures

pub returns-clause-noted : goal.returns-clause-noted
returns-clause-noted c =
    let members = c.args.self.now.members.now in
    let member = c.args.member.now in
    let within : c.args.index < length members = slice_get_within members c.args.index member c.requires.member in
    let at : member ≡ get_or members c.args.index member = sym (get_or_from_slice_get members c.args.index member member c.requires.member) in
    let more : c.note.new.self ≡ sources_of (take (c.args.index + 1) members) =
    c.in_ok-note.ensures.noted ∙ ap (λ (sources : Sources). with_member sources member) c.requires.noted ∙ sym (sources_more members c.args.index member within at) in
    subst (λ (sources : Sources). OnOk c.check_size.result (c.note.new.self ≡ sources)) more (search rules)
