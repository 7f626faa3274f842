-- What is found of modules: the exit status, and the names of stages and reasons.
use Rattle.std.specs.Prelude.{ℕ, List, [], ◌++◌, Option, Some, None, String, codes, decimal, string_bytes}
use Rattle.std.specs.declared.alloc.Global.{Global}
use Rattle.naga_verdict.specs.declared.verdict.Reason.{Reason}
use Rattle.naga_verdict.specs.declared.verdict.Reason.TheVariants as reason
use Rattle.naga_verdict.specs.declared.verdict.Stage.{Stage}
use Rattle.naga_verdict.specs.declared.verdict.Stage.TheVariants as stage
use Rattle.naga_verdict.specs.declared.verdict.Verdict.{Verdict}
use Rattle.naga_verdict.specs.declared.verdict.Verdict.TheVariants.{Accepted, Failed, Refused, Unreadable}

-- the exit status of a verdict
abbrev pub status_of : Verdict → ℕ
status_of Accepted = 0
status_of (Refused refusal) = 1
status_of (Unreadable unreadable) = 2
status_of (Failed why) = 3

-- the name of a stage
abbrev pub stage_name : Stage → List ℕ
stage_name stage.Handles = codes "handles"
stage_name stage.Layout = codes "layout"
stage_name stage.Type_ = codes "type"
stage_name stage.Expression = codes "expression"
stage_name stage.Constant = codes "constant"
stage_name stage.Override = codes "override"
stage_name stage.GlobalVariable = codes "global variable"
stage_name stage.Function = codes "function"
stage_name stage.EntryPoint = codes "entry point"
stage_name stage.Module = codes "module"

-- the name of a reason
abbrev pub reason_name : Reason → List ℕ
reason_name reason.ByteOrderMark = codes "ByteOrderMark"
reason_name reason.NotUtf8 = codes "NotUtf8"
reason_name reason.Tab = codes "Tab"
reason_name reason.CarriageReturn = codes "CarriageReturn"
reason_name reason.EmptyWord = codes "EmptyWord"
reason_name reason.CommentBehindItem = codes "CommentBehindItem"
reason_name (reason.UnknownKeyword word) = codes "UnknownKeyword"
reason_name reason.LabelInLineText = codes "LabelInLineText"
reason_name (reason.UnknownLabel label) = codes "UnknownLabel"
reason_name (reason.LabelAgain line) = codes "LabelAgain"
reason_name reason.TooFewWords = codes "TooFewWords"
reason_name reason.TooManyWords = codes "TooManyWords"
reason_name (reason.OutOfRange word) = codes "OutOfRange"
reason_name (reason.UnknownWord word) = codes "UnknownWord"
reason_name (reason.TypeAgain line) = codes "TypeAgain"
reason_name (reason.SettingAgain line) = codes "SettingAgain"
reason_name reason.OutsideFunction = codes "OutsideFunction"
reason_name reason.NoForm = codes "NoForm"

-- the words before what a reason names, or all words if it names nothing
abbrev pub before_name : Reason → List ℕ
before_name reason.ByteOrderMark = codes "the file begins with a byte order mark"
before_name reason.NotUtf8 = codes "not UTF-8"
before_name reason.Tab = codes "a tab; single spaces part words"
before_name reason.CarriageReturn = codes "a carriage return; lines end with a line feed alone"
before_name reason.EmptyWord = codes "a space too many; single spaces part words"
before_name reason.CommentBehindItem = codes "a comment behind an item; a comment has a line of its own"
before_name (reason.UnknownKeyword word) = codes "no such keyword: "
before_name reason.LabelInLineText = codes "a label, which only the larger text has"
before_name (reason.UnknownLabel label) = codes "no line before has the label "
before_name (reason.LabelAgain line) = codes "the label stands already in line "
before_name reason.TooFewWords = codes "a word too few"
before_name reason.TooManyWords = codes "a word too many"
before_name (reason.OutOfRange word) = codes "out of range: "
before_name (reason.UnknownWord word) = codes "no word that can stand here: "
before_name (reason.TypeAgain line) = codes "an equal type stands already in line "
before_name (reason.SettingAgain line) = codes "the setting stands already in line "
before_name reason.OutsideFunction = codes "no function or entry point begins before"
before_name reason.NoForm = codes "no line like this can stand here"

-- the word or the number of the line that a reason names, if it names one
abbrev pub named_by : Reason → List ℕ
named_by (reason.UnknownKeyword word) = string_bytes word
named_by (reason.UnknownLabel label) = string_bytes label
named_by (reason.OutOfRange word) = string_bytes word
named_by (reason.UnknownWord word) = string_bytes word
named_by (reason.LabelAgain line) = decimal line
named_by (reason.TypeAgain line) = decimal line
named_by (reason.SettingAgain line) = decimal line
named_by _ = []

-- a reason in words
abbrev pub reason_text : Reason → List ℕ
reason_text why = before_name why ++ named_by why

-- the bytes of a text, if there is one
abbrev pub bytes_of : Option (String Global) → Option (List ℕ)
bytes_of (Some text) = Some (string_bytes text)
bytes_of None = None
