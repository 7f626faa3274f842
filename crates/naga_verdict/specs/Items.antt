-- What items are called.
use Rattle.std.specs.Prelude.{ℕ, List, ◌∷◌, ◌++◌, Option, Some, None, codes, decimal}
use Rattle.naga_verdict.specs.declared.item.Item.{Item}
use Rattle.naga_verdict.specs.declared.item.Item.TheVariants as item
use Rattle.naga_verdict.specs.declared.item.Owner.{Owner}
use Rattle.naga_verdict.specs.declared.item.Owner.TheVariants as owner

-- what items like this are called
abbrev pub kind_of : Item → List ℕ
kind_of (item.Type_ i) = codes "type"
kind_of (item.GlobalExpression i) = codes "global expression"
kind_of (item.Constant i) = codes "constant"
kind_of (item.Override i) = codes "override"
kind_of (item.GlobalVariable i) = codes "global variable"
kind_of (item.Function i) = codes "function"
kind_of (item.EntryPoint i) = codes "entry point"
kind_of (item.DiagnosticFilter i) = codes "diagnostic filter"
kind_of (item.Argument of i) = codes "argument"
kind_of (item.LocalVariable of i) = codes "local variable"
kind_of (item.Expression of i) = codes "expression"

-- the letter before the index of an item like this
abbrev pub letter_of : Item → ℕ
letter_of (item.Type_ i) = 84
letter_of (item.GlobalExpression i) = 71
letter_of (item.Constant i) = 67
letter_of (item.Override i) = 79
letter_of (item.GlobalVariable i) = 86
letter_of (item.Function i) = 70
letter_of (item.EntryPoint i) = 78
letter_of (item.DiagnosticFilter i) = 68
letter_of (item.Argument of i) = 65
letter_of (item.LocalVariable of i) = 76
letter_of (item.Expression of i) = 69

-- the index among items like this
abbrev pub index_of : Item → ℕ
index_of (item.Type_ i) = i
index_of (item.GlobalExpression i) = i
index_of (item.Constant i) = i
index_of (item.Override i) = i
index_of (item.GlobalVariable i) = i
index_of (item.Function i) = i
index_of (item.EntryPoint i) = i
index_of (item.DiagnosticFilter i) = i
index_of (item.Argument of i) = i
index_of (item.LocalVariable of i) = i
index_of (item.Expression of i) = i

-- the function or entry point that an item belongs to
abbrev pub owner_of : Item → Option Owner
owner_of (item.Argument of i) = Some of
owner_of (item.LocalVariable of i) = Some of
owner_of (item.Expression of i) = Some of
owner_of _ = None

-- a function or an entry point as an item
abbrev pub item_of : Owner → Item
item_of (owner.Function i) = item.Function i
item_of (owner.EntryPoint i) = item.EntryPoint i

-- an item, by its letter and index, without the function or entry point that it belongs to
abbrev pub short_text : Item → List ℕ
short_text x = letter_of x ∷ decimal (index_of x)
