-- Which bytes and which leaves of a type are shown.
use Rattle.std.specs.Prelude.{◌≡◌, ℕ, ◌+◌, ◌-◌, ◌<◌, ◌≤◌, Bool, true, false, List, [], ◌∷◌, ◌++◌, Option, None, if◌then◌else◌, length, map, nat_lt, option_map}
use Rattle.std.specs.List.{Contains, filter_map}
use Rattle.naga_cli.specs.declared.rows.LeafRow.{LeafRow}
use Rattle.naga_cli.specs.declared.rows.Row.{Row}
use Rattle.naga_ir.specs.ItemReferences.{GlobalLists}
use Rattle.naga_leaves.specs.Found.{AreAll, AreFirst, Found, IsLeafOf}
use Rattle.naga_typing.specs.Leaves.{LeafBytes}

-- some row of `rows` has the byte `k`
pub record HasByte (rows : List Row) (k : ℕ) : Type 0 where
  pub row : Row
  pub among : Contains rows row
  pub begins : row.offset ≤ k
  pub ends : k < row.offset + row.size

-- the rows have all bytes before `end`
pub record Cover (rows : List Row) (end : ℕ) : Type 0 where
  pub has_each : (k : ℕ) → k < end → HasByte rows k

-- the padding from the byte `end` up to the byte `offset`: one row, or none if there is no byte
abbrev pub padding : ℕ → ℕ → List Row
padding end offset = if nat_lt end offset then record { offset = end; size = offset - end; leaf = None } ∷ [] else []

-- the leaf whose bytes a row has, unless it is padding
abbrev pub leaf_in : Row → Option LeafBytes
leaf_in row =
    option_map (λ (shown : LeafRow).
    let leaf : LeafBytes = record { first = row.offset; size = row.size; alignment = shown.alignment } in leaf) row.leaf

-- the leaves whose bytes `rows` have, in the order of the rows
abbrev pub leaves_in : List Row → List LeafBytes
leaves_in rows = filter_map leaf_in rows

-- how many leaves of a type are shown at most
abbrev pub most_leaves : ℕ
most_leaves = 1000

-- `found` are as many as are shown at most, the first of more of which `IsLeaf` holds
pub record IsCut (IsLeaf : Found → Type 0) (found : List Found) : Type 0 where
  pub as_many : length found ≡ most_leaves
  pub next : Found
  pub first : AreFirst IsLeaf (found ++ next ∷ [])

-- `rows` have the leaves of the type of index `ty`, where arrays of no fixed length have `n` elements: all of them, or
-- the first of more than are shown if `is_cut`
pub record ShowLeaves (g : GlobalLists) (n ty : ℕ) (is_cut : Bool) (rows : List Row) : Type 0 where
  pub found : List Found
  pub are : leaves_in rows ≡ map (λ (f : Found). f.leaf) found
  pub whole : is_cut ≡ false → AreAll (IsLeafOf g n ty) found × (length found ≤ most_leaves)
  pub cut : is_cut ≡ true → IsCut (IsLeafOf g n ty) found
