-- What is written of what is found of a module.
use Rattle.std.specs.Prelude.{◌≡◌, ◌==◌, ◌&&◌, ◌⊎◌, Bool, false, true, string_bytes}
use Rattle.naga_cli.specs.declared.arguments.Options.{Options}
use Rattle.naga_cli.specs.declared.written.Written.{Written}
use Rattle.naga_cli.specs.declared.written.Written.TheVariants.{Error, Nothing, Output}
use Rattle.naga_verdict.specs.Lines.{lines_text}
use Rattle.naga_verdict.specs.Objects.{IsObject}
use Rattle.naga_verdict.specs.Verdicts.{status_of}
use Rattle.naga_verdict.specs.declared.verdict.Finding.{Finding}

-- whether a module is accepted
abbrev pub accepts : Finding → Bool
accepts finding = status_of finding.verdict == 0

-- what is written by these options: nothing of an accepted module if they ask for quiet; else an object of JSON on
-- standard output if they ask for that; else lines, on standard output of an accepted module, and on standard error of
-- all others
abbrev pub IsWritten : Options → Finding → Written → Type 0
IsWritten options finding Nothing = (options.quiet ≡ true) × (accepts finding ≡ true)
IsWritten options finding (Output text) = ((options.quiet && accepts finding) ≡ false)
    × (((options.json ≡ true) × IsObject finding (string_bytes text))
    ⊎ ((options.json ≡ false) × (accepts finding ≡ true) × (string_bytes text ≡ lines_text finding)))
IsWritten options finding (Error text) =
    (options.json ≡ false) × (accepts finding ≡ false) × (string_bytes text ≡ lines_text finding)
