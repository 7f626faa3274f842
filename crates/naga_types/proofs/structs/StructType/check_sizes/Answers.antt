use Rattle.std.proofs.Common.{rules, ◌≡◌, ◌∙◌, ℕ, true, List, None, ap, sym}
use Rattle.std.specs.List.{list_all}
use Rattle.std.proofs.lemmas.Bool.{and_parts}
use Rattle.naga_arena.proofs.Elements.{all_at}
use Rattle.naga_flags.specs.Bits.{SIZED}
use Rattle.naga_flags.specs.Flags.{has}
use Rattle.naga_ir.specs.declared.types.StructMember.{StructMember}
use Rattle.naga_types.specs.Checks.{first, ok_unless, require}
use Rattle.naga_types.specs.FormFlags.{unshared_flags}
use Rattle.naga_types.specs.Layouts.{saturated, unsized_error, unsized_errors}
use Rattle.naga_types.specs.StructRule.{common_flags}
use Rattle.naga_types.specs.Surroundings.{Surroundings, flags_at}
use Rattle.naga_types.specs.declared.error.Disalignment.TheVariants.{UnsizedMember}
use Rattle.naga_types.specs.steps.Structs.{surroundings_of}
use Rattle.naga_types.proofs.CommonFlags.{has-common_flags}
use Rattle.naga_types.proofs.KeptConditions.{all-pass, first-none}
use Rattle.naga_types.proofs.structs.StructType.check_sizes.Goals as goal

-- no member lacks a fixed size if fixed sizes are common to all
all_sized : (s : Surroundings) (t : ℕ) (members : List StructMember) → has (common_flags s members) SIZED ≡ true → first (unsized_errors s t members) ≡ None
all_sized s t members h =
    let each = all-pass (λ (m : StructMember). has (flags_at s m.ty) SIZED) members (and_parts (has unshared_flags SIZED) (list_all (λ (m : StructMember). has (flags_at s m.ty) SIZED) members) (sym (has-common_flags s members SIZED) ∙ h)).1 in
    first-none (unsized_error s t) members (λ k m at. ap (λ b. require b (t, UnsizedMember (saturated k))) (all_at (λ (m : StructMember). has (flags_at s m.ty) SIZED ≡ true) members k m each at))

pub returns-then-contains : goal.returns-then-contains
returns-then-contains c =
    let s = surroundings_of c.args.self.now in
    let members = c.args.self.now.members.now in
    let sized : has (common_flags s members) SIZED ≡ true = search rules in
    sym (ap (λ o. ok_unless o tt) (all_sized s c.args.self.now.handle members sized))
