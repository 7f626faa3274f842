use Rattle.std.proofs.Common.{◌≡◌, drop}
use Rattle.std.specs.List.{find}
use Rattle.naga_typing.specs.FullTyping.{is_pair}
use Rattle.naga_typing.proofs.full_typing.find_pair.Given as goal

-- the first pair of the types that are left is the one of all
abbrev pub invariant-loop-ty : goal.invariant-loop-ty
invariant-loop-ty l =
    find (is_pair l.types l.first l.second) (drop l.ty-index l.among) ≡ find (is_pair l.types l.first l.second) l.among
