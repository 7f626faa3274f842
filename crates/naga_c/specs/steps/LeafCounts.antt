-- The leaves of one type, as they are counted.
use Rattle.std.specs.Prelude.{◌≡◌, ℕ, List, Result, Ok, Err}
use Rattle.naga_ir.specs.ItemReferences.{global_lists}
use Rattle.naga_ir.specs.declared.ir.Module.{Module}
use Rattle.naga_leaves.specs.Found.{AreAll, Found, IsLeafOf}
use Rattle.naga_c.specs.LeafCounts.{CannotCountType, with_found}
use Rattle.naga_c.specs.declared.results.Counts.{Counts}
use Rattle.naga_c.specs.declared.status.Status.{Status}

-- what counting the leaves of the type of index `ty` of the module `m` after `before` comes to, where a runtime-sized
-- array has `n` elements
abbrev pub CountsType : Module → (n ty most : ℕ) → Counts → Result Counts Status → Type 0
CountsType m n ty most before (Ok counts) =
    (found : List Found) × AreAll (IsLeafOf (global_lists m) n ty) found × (counts ≡ with_found before found)
CountsType m n ty most before (Err status) = CannotCountType m n ty most before status
