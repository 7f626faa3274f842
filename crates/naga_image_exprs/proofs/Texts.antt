-- A text that a refusal can carry.
use Rattle.std.proofs.Common.{[], refl, arith}
use Rattle.std.specs.Prelude.{String}
use Rattle.std.specs.declared.alloc.Global.{Global}
use denote.RawPtr.{null_ptr}

-- an empty text
pub empty_text : Global → String Global
empty_text alloc = record { bytes = record { ptr = null_ptr; len = 0; cap = 0; alloc = alloc; items = []; ok = (refl, omega arith); small = omega arith }; ok = ∣ ([], (refl, refl)) ∣₁ }
