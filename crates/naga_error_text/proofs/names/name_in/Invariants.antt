use Rattle.std.proofs.Common.{◌≡◌, drop, map}
use Rattle.naga_error_text.specs.Names.{name_in}
use Rattle.naga_error_text.proofs.names.name_in.Given as goal

-- the rows that are left give the number the same name as all rows
abbrev pub invariant-loop-known : goal.invariant-loop-known
invariant-loop-known l = name_in (map (λ row. (row.0, row.1.now)) (drop l.known-index l.table)) l.number ≡ name_in (map (λ row. (row.0, row.1.now)) l.table) l.number
