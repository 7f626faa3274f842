-- The lines for people that say what is found of a module.
use Rattle.std.specs.Prelude.{ℕ, List, [], ◌∷◌, ◌++◌, Option, Some, None, String, codes, decimal, option_map, string_bytes}
use Rattle.std.specs.declared.alloc.Global.{Global}
use Rattle.naga_verdict.specs.Items.{index_of, item_of, kind_of, owner_of, short_text}
use Rattle.naga_verdict.specs.Verdicts.{reason_text, stage_name}
use Rattle.naga_verdict.specs.declared.item.Item.{Item}
use Rattle.naga_verdict.specs.declared.item.Owner.{Owner}
use Rattle.naga_verdict.specs.declared.verdict.Finding.{Finding}
use Rattle.naga_verdict.specs.declared.verdict.Named.{Named}
use Rattle.naga_verdict.specs.declared.verdict.Refusal.{Refusal}
use Rattle.naga_verdict.specs.declared.verdict.Unreadable.{Unreadable}
use Rattle.naga_verdict.specs.declared.verdict.Verdict.{Verdict}
use Rattle.naga_verdict.specs.declared.verdict.Verdict.TheVariants as verdict

-- what an item is called: its kind, its label if it has one, and its letter and index
abbrev pub called : Item → Option (String Global) → List ℕ
called item (Some label) =
    kind_of item ++ (codes " " ++ (string_bytes label ++ (codes " (" ++ (short_text item ++ codes ")"))))
called item None = kind_of item ++ (codes " " ++ short_text item)

-- what stands before an item that belongs to a function or an entry point, by the label of the latter
abbrev pub owner_called : Option Owner → Option (String Global) → List ℕ
owner_called (Some of) label = called (item_of of) label ++ codes ", "
owner_called None label = []

-- what an item is called, with the function or entry point that it belongs to
abbrev pub named_text : Named → List ℕ
named_text named = owner_called (owner_of named.item) named.owner_label ++ called named.item named.label

-- a line of a file, if it is known
abbrev pub line_text : Option ℕ → List ℕ
line_text (Some line) = codes ":" ++ decimal line
line_text None = []

-- a case, if a file has cases
abbrev pub case_text : Option (List ℕ) → List ℕ
case_text (Some title) = codes "case " ++ (title ++ codes ": ")
case_text None = []

-- where an item that an error names is in the file
abbrev pub at_text : Option ℕ → List ℕ
at_text (Some line) = codes ", line " ++ decimal line
at_text None = []

-- the line of an item that an error names
abbrev pub name_text : Named → List ℕ
name_text named =
    codes "    ["
    ++ (decimal (index_of named.item) ++ (codes "] is "
    ++ (called named.item named.label ++ (at_text named.line ++ codes "\n"))))

-- the lines of the items that an error names
abbrev pub names_text : List Named → List ℕ
names_text [] = []
names_text (named ∷ rest) = name_text named ++ names_text rest

-- the line of the item that is wrong, if it is known
abbrev pub wrong_line : Option Named → Option ℕ
wrong_line (Some named) = named.line
wrong_line None = None

-- the item that is wrong, or else the stage
abbrev pub wrong_text : Refusal → Option Named → List ℕ
wrong_text refusal (Some named) = named_text named
wrong_text refusal None = stage_name refusal.stage

-- the error of a refusal: its name, what it holds, and then its words on a line of their own
abbrev pub error_text : Refusal → List ℕ
error_text refusal =
    codes ": "
    ++ (string_bytes refusal.error
    ++ (string_bytes refusal.fields ++ (codes "\n    " ++ (string_bytes refusal.text ++ codes "\n"))))

-- the lines on a refused module of the file `file`, and of this case
abbrev pub refused_text : List ℕ → Option (List ℕ) → Refusal → List ℕ
refused_text file case refusal =
    file ++ (line_text (wrong_line refusal.at)
    ++ (codes ": "
    ++ (case_text case
    ++ (wrong_text refusal refusal.at ++ (error_text refusal ++ names_text refusal.names.items)))))

-- the file, the line and the column that can't be read
abbrev pub position_text : List ℕ → Unreadable → List ℕ
position_text file unreadable =
    file ++ (codes ":" ++ (decimal unreadable.line ++ (codes ":" ++ (decimal unreadable.why.column ++ codes ": "))))

-- the line on a file that can't be read
abbrev pub unreadable_text : List ℕ → Option (List ℕ) → Unreadable → List ℕ
unreadable_text file case unreadable =
    position_text file unreadable
    ++ (case_text case ++ (codes "not readable: " ++ (reason_text unreadable.why.reason ++ codes "\n")))

-- the lines on a file or a case with this verdict
abbrev pub verdict_text : List ℕ → Option (List ℕ) → Verdict → List ℕ
verdict_text file case verdict.Accepted = file ++ (codes ": " ++ (case_text case ++ codes "ok\n"))
verdict_text file case (verdict.Refused refusal) = refused_text file case refusal
verdict_text file case (verdict.Unreadable unreadable) = unreadable_text file case unreadable
verdict_text file case (verdict.Failed why) = file ++ (codes ": " ++ (string_bytes why ++ codes "\n"))

-- the lines that say what is found of a module
abbrev pub lines_text : Finding → List ℕ
lines_text finding = verdict_text finding.file.now (option_map (λ title. title.now) finding.case) finding.verdict
