use Rattle.std.proofs.Common.{◌≡◌, ◌++◌, drop, string_bytes}
use Rattle.naga_verdict.specs.Objects.{more_names}
use Rattle.naga_verdict.proofs.objects.add_more_names.Given as goal

-- the text and the items that are left are all
abbrev pub invariant-loop-named : goal.invariant-loop-named
invariant-loop-named l =
    string_bytes l.json ++ more_names (drop l.named-index l.names) ≡ string_bytes l.initial.json ++ more_names l.names
