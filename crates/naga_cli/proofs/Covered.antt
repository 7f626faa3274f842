-- Rows that have all bytes up to an end.
use Rattle.std.proofs.Common.{◌≡◌, ℕ, ◌+◌, ◌≤◌, max, List, [], ◌∷◌, ◌++◌, inl, inr, arith, rules}
use Rattle.std.proofs.lemmas.Bool.{cases_lt}
use Rattle.std.proofs.lemmas.List.Elements.{Contains-append_left, Contains-append_right}
use Rattle.naga_cli.specs.Rows.{Cover}
use Rattle.naga_cli.specs.declared.rows.Row.{Row}

-- there is no byte before the first
pub none : (rows : List Row) (end : ℕ) → end ≡ 0 → Cover rows end
none rows end e = record { has_each = λ k h. absurd (omega arith) }

-- a byte before the old end is in the old rows, and another in the new one
pub more : (rows : List Row) (row : Row) (old new : ℕ) → Cover rows old → row.offset ≤ old → new ≤ max old (row.offset + row.size)
    → Cover (rows ++ row ∷ []) new
more rows row old new covered next ends = record {
  has_each = λ k h. elim (cases_lt k old) [
    | inl before ↦ (let b = covered.has_each k before in record {
      row = b.row;
      among = Contains-append_left rows (row ∷ []) b.row b.among;
      begins = b.begins;
      ends = b.ends;
    })
    | inr behind ↦ record {
      row = row;
      among = Contains-append_right rows (row ∷ []) row (search rules);
      begins = omega arith;
      ends = omega arith;
    }
  ];
}

-- rows that have more bytes than these have these
pub fewer : (rows : List Row) (end size : ℕ) → Cover rows end → size ≤ end → Cover rows size
fewer rows end size covered within = record { has_each = λ k h. covered.has_each k (omega arith) }
