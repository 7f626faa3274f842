use Rattle.std.proofs.Common.{◌≡◌, drop, map}
use Rattle.naga_text.specs.Tables.{chosen}
use Rattle.naga_text.proofs.words.chosen.Given as goal

-- the rows that are left have the word with the same value as all rows
abbrev pub invariant-loop-name : goal.invariant-loop-name
invariant-loop-name g l = chosen (map (λ row. (row.0.now, row.1)) (drop l.name-index l.table)) l.word ≡ chosen (map (λ row. (row.0.now, row.1)) l.table) l.word
