use Rattle.std.proofs.Common.{◌≡◌, ◌<◌, ◌≤◌, ℕ, Option, Some, length, ap, sym, ◌∙◌, arith}
use Rattle.std.specs.List.{slice_get}
use Rattle.std.specs.Option.{option_map}
use Rattle.std.proofs.lemmas.Bool.Decides.{nat_tests}
use Rattle.std.proofs.lemmas.Grind.{common_steps}
use Rattle.std.proofs.lemmas.Option.{gets, slice_get_past}
use Rattle.naga_leaves.proofs.Members.{member_at, member_part}
use Rattle.naga_leaves.specs.steps.Parts.{part_of}
use Rattle.naga_typing.specs.Context.{lists_of}
use Rattle.naga_typing.specs.Leaves as spec
use Rattle.naga_typing.specs.Leaves.{elements}
use Rattle.naga_typing.proofs.Existence.{array_override_exists}
use Rattle.naga_leaves.proofs.leaf.part_at.Goals as goal

pub element_count-requires-clause-exists : goal.element_count-requires-clause-exists
element_count-requires-clause-exists c = array_override_exists (lists_of c.args.gctx.now) _ _ _ _ c.requires.exist c.in-Array.is

pub returns-in_err-member-in-Struct : goal.returns-in_err-member-in-Struct
returns-in_err-member-in-Struct c =
    let past : length c.in-Struct.members ≤ c.args.index = grind (arith, nat_tests, c.in_err-member-in-Struct.ensures) in
    ap (option_map part_of) c.from_residual.ensures
    ∙ sym (member_at (elements (lists_of c.args.gctx.now) c.args.dynamic) c.args.inner.now c.in-Struct.members c.in-Struct.span c.args.index c.in-Struct.is
    ∙ ap (option_map member_part) (slice_get_past c.in-Struct.members c.args.index past))

pub returns-in_ok-member-in-Struct : goal.returns-in_ok-member-in-Struct
returns-in_ok-member-in-Struct c =
    let m = c.in_ok-member-in-Struct.member.now in
    let within : c.args.index < length c.in-Struct.members = grind (arith, nat_tests, c.in_ok-member-in-Struct.ensures) in
    let at : slice_get c.in-Struct.members c.args.index ≡ Some m = grind (arith, common_steps, gets, within, c.in_ok-member-in-Struct.ensures) in
    sym (member_at (elements (lists_of c.args.gctx.now) c.args.dynamic) c.args.inner.now c.in-Struct.members c.in-Struct.span c.args.index c.in-Struct.is
    ∙ ap (option_map member_part) at
    ∙ ap (λ (first : ℕ). let part : Option spec.Part = Some (record { ty = m.ty; first = first }) in part) (sym c.from-in-Struct.ensures))
