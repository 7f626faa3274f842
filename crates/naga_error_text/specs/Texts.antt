-- The text of an error, with the texts of the errors within it.
use Rattle.std.specs.Prelude.{ℕ, zero, suc, List, [], ◌∷◌, ◌++◌, Option, Some, None, codes}
use Rattle.std.specs.List.{concat}
use Rattle.naga_error_text.specs.declared.errors.Error.{Error}
use Rattle.naga_error_text.specs.declared.families.Family.{Family}
use Rattle.naga_error_text.specs.declared.families.Family.TheVariants as family
use Rattle.naga_error_text.specs.declared.pieces.Values.{Values}
use Rattle.naga_error_text.specs.Errors.{cause_of, error_of, error_parts, values_within}

-- the text of the error within another, if there is one, of the values `v`: `within` is the text of one of a family
abbrev pub text_within : Option Family → (v : Values) → (within : Family → Values → List ℕ) → List ℕ
text_within None v within = []
text_within (Some family) v within = within family v

-- the text of an error of the values `v`, if its number is one's: `within` is the text of the error in it, of a family
abbrev pub text_of : Option Error → (v : Values) → (within : Family → Values → List ℕ) → List ℕ
text_of None v within = codes "unknown error"
text_of (Some e) v within = concat (error_parts e v) ++ text_within (cause_of e) (values_within e v) within

-- the text of an error of a family and of the errors within it, outermost first, of their numbers and values
abbrev pub chain_text : (numbers : List ℕ) → Family → Values → List ℕ
chain_text [] family v = codes "unknown error"
chain_text (n ∷ numbers) family v = text_of (error_of family n) v (chain_text numbers)

-- the text of a refusal at a stage, by the numbers of its errors, outermost first, and their values: none at stage 0
abbrev pub refusal_text : (stage : ℕ) → (numbers : List ℕ) → Values → List ℕ
refusal_text zero numbers v = []
refusal_text (suc n) numbers v = chain_text (suc n ∷ numbers) family.Stage v
