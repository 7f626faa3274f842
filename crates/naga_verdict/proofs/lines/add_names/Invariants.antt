use Rattle.std.proofs.Common.{◌≡◌, ◌++◌, drop, string_bytes}
use Rattle.naga_verdict.specs.Lines.{names_text}
use Rattle.naga_verdict.proofs.lines.add_names.Given as goal

-- the text and the lines of the items that are left are all
abbrev pub invariant-loop-named : goal.invariant-loop-named
invariant-loop-named l =
    string_bytes l.text ++ names_text (drop l.named-index l.names) ≡ string_bytes l.initial.text ++ names_text l.names
