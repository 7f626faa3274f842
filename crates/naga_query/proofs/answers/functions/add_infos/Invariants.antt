use Rattle.std.proofs.Common.{◌≡◌, ◌≤◌, length}
use Rattle.naga_query.proofs.answers.functions.add_infos.Given as goal

-- as many functions are known as were added, and what was known of types still is
abbrev pub invariant-loop-index : goal.invariant-loop-index
invariant-loop-index l = (length l.info.lists.functions ≡ l.index) × (length l.draft.«module».types ≤ length l.info.lists.type_flags)
