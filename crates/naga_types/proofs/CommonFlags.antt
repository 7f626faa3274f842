-- What a struct may be used for by its members.
use Rattle.std.proofs.Common.{◌≡◌, ◌&&◌, ℕ, List, ap, map, ◌∙◌}
use Rattle.std.specs.List.{list_all}
use Rattle.std.proofs.lemmas.List.Folds.{list_all-map}
use Rattle.naga_flags.proofs.HasLemmas.{has-intersection}
use Rattle.naga_flags.specs.Flags.{has}
use Rattle.naga_ir.specs.declared.types.StructMember.{StructMember}
use Rattle.naga_types.specs.FormFlags.{unshared_flags}
use Rattle.naga_types.specs.StructRule.{common_flags}
use Rattle.naga_types.specs.Surroundings.{Surroundings, flags_at}

-- members have flags in common if structs may have them and each member has them
pub has-common_flags : (s : Surroundings) (members : List StructMember) (flags : ℕ)
    → has (common_flags s members) flags ≡ (has unshared_flags flags && list_all (λ (m : StructMember). has (flags_at s m.ty) flags) members)
has-common_flags s members flags =
    has-intersection unshared_flags (map (λ (m : StructMember). flags_at s m.ty) members) flags
    ∙ ap (λ b. has unshared_flags flags && b) (list_all-map (λ set. has set flags) (λ (m : StructMember). flags_at s m.ty) members)
