use Rattle.std.proofs.Common.{string_bytes}
use Rattle.naga_report.proofs.TypeLines.{IsWritten}
use Rattle.naga_report.proofs.report.report_accepted.Given as goal

-- the lines so far, and the lines of the types that are left, are all
abbrev pub invariant-loop-handle : goal.invariant-loop-handle
invariant-loop-handle l = IsWritten (string_bytes l.text) l.validator.infos l.handle-iterator
