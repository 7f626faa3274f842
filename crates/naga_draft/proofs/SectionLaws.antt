-- How the sections of items go on with more items.
use Rattle.std.proofs.Common.{◌≡◌, List, [], ◌∷◌, ◌++◌, append-nil, refl, ap, ◌∙◌}
use Rattle.naga_draft.specs.Items.{Head, Role, Sections, begins, belongs, neither, role, sections, with_role}
use Rattle.naga_draft.specs.declared.item.Item.{Item}
use Rattle.naga_draft.specs.declared.item.Part.{Part}

-- sections, of which the last has more parts, if there is one
abbrev pub with_parts : List (Head × List Part) → List Part → List (Head × List Part)
with_parts [] more = []
with_parts (section ∷ []) more = (section.0, section.1 ++ more) ∷ []
with_parts (section ∷ next ∷ rest) more = section ∷ with_parts (next ∷ rest) more

-- sections that go on with others
abbrev pub joined : Sections → Sections → Sections
joined (before, []) later = (before ++ later.0, later.1)
joined (before, section ∷ rest) later = (before, with_parts (section ∷ rest) later.0 ++ later.1)

-- a role before sections that go on
role_joined : (r : Role) (s later : Sections) → with_role r (joined s later) ≡ joined (with_role r s) later
role_joined (begins head) (before, []) later = refl
role_joined (begins head) (before, section ∷ rest) later = refl
role_joined (belongs p) (before, []) later = refl
role_joined (belongs p) (before, section ∷ rest) later = refl
role_joined neither (before, []) later = refl
role_joined neither (before, section ∷ rest) later = refl

-- the sections of items and more are those of the items, which go on
pub sections_joined : (items more : List Item) → sections (items ++ more) ≡ joined (sections items) (sections more)
sections_joined [] more = refl
sections_joined (item ∷ items) more = ap (with_role (role item)) (sections_joined items more) ∙ role_joined (role item) (sections items) (sections more)

-- the last of sections has more parts
pub last_with : (before : List (Head × List Part)) (head : Head) (parts more : List Part) → with_parts (before ++ (head, parts) ∷ []) more ≡ before ++ (head, parts ++ more) ∷ []
last_with [] head parts more = refl
last_with (section ∷ []) head parts more = refl
last_with (section ∷ next ∷ rest) head parts more = ap (λ all. section ∷ all) (last_with (next ∷ rest) head parts more)

-- sections with a last one go on
pub joined_last : (before : List (Head × List Part)) (head : Head) (parts : List Part) (later : Sections) → joined ([], before ++ (head, parts) ∷ []) later ≡ ([], (before ++ (head, parts ++ later.0) ∷ []) ++ later.1)
joined_last [] head parts later = refl
joined_last (section ∷ rest) head parts later = ap (λ (all : List (Head × List Part)). ([], all ++ later.1)) (last_with (section ∷ rest) head parts later.0)

-- sections that go on with nothing stay as they are
pub with_no_parts : (all : List (Head × List Part)) → with_parts all [] ≡ all
with_no_parts [] = refl
with_no_parts (section ∷ []) = λ j. (section.0, append-nil section.1 j) ∷ []
with_no_parts (section ∷ next ∷ rest) = ap (λ all. section ∷ all) (with_no_parts (next ∷ rest))

pub joined_nothing : (s : Sections) → joined s ([], []) ≡ s
joined_nothing (before, []) = λ j. (append-nil before j, [])
joined_nothing (before, section ∷ rest) = λ j. (before, (append-nil (with_parts (section ∷ rest) []) ∙ with_no_parts (section ∷ rest)) j)

-- an item that is neither a part nor a head leaves the sections as they are
pub sections_same : (items : List Item) (x : Item) → sections (x ∷ []) ≡ ([], []) → sections (items ++ x ∷ []) ≡ sections items
sections_same items x alone = sections_joined items (x ∷ []) ∙ ap (joined (sections items)) alone ∙ joined_nothing (sections items)
