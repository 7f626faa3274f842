-- The infos of a module's types.
use Rattle.std.specs.Prelude.{◌≡◌, ℕ, List, Result, length, map}
use Rattle.std.specs.List.{zip}
use Rattle.naga_flags.specs.declared.flags.TypeFlags.{TypeFlags}
use Rattle.naga_flags.specs.declared.width.ImmediateError.{ImmediateError}
use Rattle.naga_types.specs.declared.error.Disalignment.{Disalignment}
use Rattle.naga_types.specs.declared.info.TypeInfo.{TypeInfo}

-- infos in the order of their types, and how many there is room for
pub record Infos : Type 0 where
  pub infos : List TypeInfo
  pub room : ℕ

-- the four columns are equally long
pub record AreColumns {A B C D : Type 0} (flags : List A) (uniform : List B) (storage : List C) (immediates : List D) : Type 0 where
  pub uniform_long : length uniform ≡ length flags
  pub storage_long : length storage ≡ length flags
  pub immediates_long : length immediates ≡ length flags

-- an info, by its fields
abbrev pub info_of : TypeFlags
    × (Result ℕ (ℕ × Disalignment) × (Result ℕ (ℕ × Disalignment) × Result (Unit {0}) ImmediateError))
    → TypeInfo
info_of p = record { flags = p.0; uniform_layout = p.1.0; storage_layout = p.1.1.0; immediates_compatibility = p.1.1.1 }

-- infos, by the columns of their fields
unfoldable pub infos_in : List TypeFlags → List (Result ℕ (ℕ × Disalignment)) → List (Result ℕ (ℕ × Disalignment))
    → List (Result (Unit {0}) ImmediateError) → List TypeInfo
infos_in flags uniform storage immediates = map info_of (zip flags (zip uniform (zip storage immediates)))
