-- The objects of JSON that say what is found of modules.
use Rattle.std.specs.Prelude.{◌≡◌, ℕ, List, [], ◌∷◌, ◌++◌, Option, Some, None, codes, decimal, option_map, string_bytes}
use Rattle.json.specs.Print.{quoted}
use Rattle.naga_verdict.specs.Items.{owner_of, short_text}
use Rattle.naga_verdict.specs.Verdicts.{bytes_of, reason_name, reason_text, stage_name}
use Rattle.naga_verdict.specs.declared.item.Item.{Item}
use Rattle.naga_verdict.specs.declared.item.Owner.{Owner}
use Rattle.naga_verdict.specs.declared.item.Owner.TheVariants as owner
use Rattle.naga_verdict.specs.declared.verdict.Finding.{Finding}
use Rattle.naga_verdict.specs.declared.verdict.Named.{Named}
use Rattle.naga_verdict.specs.declared.verdict.Refusal.{Refusal}
use Rattle.naga_verdict.specs.declared.verdict.Unreadable.{Unreadable}
use Rattle.naga_verdict.specs.declared.verdict.Verdict.{Verdict}
use Rattle.naga_verdict.specs.declared.verdict.Verdict.TheVariants as verdict

-- a string in quotes, or `null`
abbrev pub optional_string : Option (List ℕ) → List ℕ
optional_string (Some text) = quoted text
optional_string None = codes "null"

-- a number, or `null`
abbrev pub optional_number : Option ℕ → List ℕ
optional_number (Some n) = decimal n
optional_number None = codes "null"

-- the function or entry point before an item that belongs to it
abbrev pub owner_text : Option Owner → List ℕ
owner_text (Some (owner.Function i)) = codes "F" ++ (decimal i ++ codes " ")
owner_text (Some (owner.EntryPoint i)) = codes "N" ++ (decimal i ++ codes " ")
owner_text None = []

-- an item, with the function or entry point that it belongs to
abbrev pub item_text : Item → List ℕ
item_text item = owner_text (owner_of item) ++ short_text item

-- the item, its label and its line, each `null` if it is not known
abbrev pub named_fields : Option Named → List ℕ
named_fields (Some named) =
    codes "\"item\":\"" ++ (item_text named.item ++ (codes "\",\"label\":"
    ++ (optional_string (bytes_of named.label) ++ (codes ",\"line\":" ++ optional_number named.line))))
named_fields None = codes "\"item\":null,\"label\":null,\"line\":null"

-- the items of a list, behind the first
abbrev pub more_names : List Named → List ℕ
more_names [] = codes "]"
more_names (named ∷ rest) = codes ",{" ++ (named_fields (Some named) ++ (codes "}" ++ more_names rest))

-- the array of the items that an error names
abbrev pub names_array : List Named → List ℕ
names_array [] = codes "[]"
names_array (named ∷ rest) = codes "[{" ++ (named_fields (Some named) ++ (codes "}" ++ more_names rest))

-- the status, the stage and the item of a refused module
abbrev pub wrong_fields : Refusal → List ℕ
wrong_fields refusal =
    codes ",\"status\":\"refused\",\"stage\":"
    ++ (quoted (stage_name refusal.stage) ++ (codes "," ++ named_fields refusal.at))

-- the error of a refused module; `fields` is what it holds, as JSON
abbrev pub error_fields : List ℕ → Refusal → List ℕ
error_fields fields refusal =
    codes ",\"column\":null,\"error\":" ++ (quoted (string_bytes refusal.error) ++ (codes ",\"fields\":" ++ fields))

-- the items that the error of a refused module names, and the error in words
abbrev pub text_fields : Refusal → List ℕ
text_fields refusal =
    codes ",\"names\":"
    ++ (names_array refusal.names.items ++ (codes ",\"text\":" ++ quoted (string_bytes refusal.text)))

-- the fields of a refused module; `fields` is what its error holds, as JSON
abbrev pub refused_fields : List ℕ → Refusal → List ℕ
refused_fields fields refusal = wrong_fields refusal ++ (error_fields fields refusal ++ text_fields refusal)

-- the status and the place of a file that can't be read
abbrev pub position_fields : Unreadable → List ℕ
position_fields unreadable =
    codes ",\"status\":\"unreadable\",\"stage\":null,\"item\":null,\"label\":null,\"line\":"
    ++ (decimal unreadable.line ++ (codes ",\"column\":" ++ decimal unreadable.why.column))

-- the name of a reason
abbrev pub name_field : List ℕ → List ℕ
name_field name = codes ",\"error\":" ++ quoted name

-- a reason in words
abbrev pub words_field : List ℕ → List ℕ
words_field text = codes ",\"fields\":null,\"names\":[],\"text\":" ++ quoted text

-- the fields of a file that can't be read
abbrev pub unreadable_fields : Unreadable → List ℕ
unreadable_fields unreadable =
    position_fields unreadable
    ++ (name_field (reason_name unreadable.why.reason) ++ words_field (reason_text unreadable.why.reason))

-- the fields of a module or a file of which no item and no line is named
abbrev pub plain_fields : List ℕ → Option (List ℕ) → List ℕ
plain_fields status text =
    codes ",\"status\":"
    ++ (quoted status
    ++ (codes ",\"stage\":null,\"item\":null,\"label\":null,\"line\":null,\"column\":null,\"error\":null,\"fields\":null,\"names\":[],\"text\":" ++ optional_string text))

-- `text` is the fields that say what is found of a module. Of what the error of a refused module holds, nothing is said
abbrev pub AreFields : Verdict → List ℕ → Type 0
AreFields verdict.Accepted text = text ≡ plain_fields (codes "accepted") None
AreFields (verdict.Refused refusal) text = (fields : List ℕ) × (text ≡ refused_fields fields refusal)
AreFields (verdict.Unreadable unreadable) text = text ≡ unreadable_fields unreadable
AreFields (verdict.Failed why) text = text ≡ plain_fields (codes "failed") (Some (string_bytes why))

-- `text` is the line of JSON that says what is found of a module
abbrev pub IsObject : Finding → List ℕ → Type 0
IsObject finding text = (fields : List ℕ) × AreFields finding.verdict fields
    × (text ≡ codes "{\"file\":"
    ++ (quoted finding.file.now
    ++ (codes ",\"case\":"
    ++ (optional_string (option_map (λ title. title.now) finding.case) ++ (fields ++ codes "}\n")))))
