use Rattle.std.proofs.Common.{◌≡◌, length}
use Rattle.naga_words.specs.Reading.{read_all}
use Rattle.naga_words.specs.Types.{first_member}
use Rattle.naga_words.proofs.AllLaws.{then}
use Rattle.naga_words.proofs.types.members.Given as goal

-- the members so far, before those of the words that are left, are those of all words
abbrev pub invariant-members : goal.invariant-members
invariant-members l = then l.members (read_all first_member l.left) ≡ read_all first_member l.words

abbrev pub decreases-members : goal.decreases-members
decreases-members l = length l.left
