-- What the reader of a text has read so far, one line more at a time.
use Rattle.std.specs.Prelude.{◌≡◌, ℕ, ◌<◌, ◌≤◌, Bool, true, false, List, [], ◌∷◌, ◌++◌, Option, Some, None, Result, Ok, Err, length, unwrap_or, Contains, MatchBool, MatchOption, ⊤}
use Rattle.naga_arena.specs.Numbers.{largest_u32}
use Rattle.naga_ir.specs.declared.types.«Type».{«Type»}
use Rattle.naga_ir.specs.declared.types.TypeInner.{TypeInner}
use Rattle.naga_text.specs.Text.{AreConsistent, AreForms, IsFirstUnreadable, IsReadable, IsText, capabilities_in, first_in, flags_in, module_of, resolved_in}
use Rattle.naga_text.specs.declared.line.Line.{Line as Line_}
use Rattle.naga_text.specs.steps.LineForms.{line_of, type_of}
use Rattle.naga_text.specs.declared.text.Contents.{Contents}
use Rattle.naga_text.specs.declared.text.ContentsSoFar.{ContentsSoFar}
use Rattle.naga_text.specs.declared.text.TextError.{TextError}
use Rattle.naga_text.specs.declared.text.TextError.TheVariants.{Line, OutOfMemory}

-- a setting without a value was set; one with a value keeps it
abbrev pub IsSetOnce : {A : Type 0} → Option A → A → Option A → Bool → Type 0
IsSetOnce old value new set =
    MatchOption old ((set ≡ true) × (new ≡ Some value)) (λ before. (set ≡ false) × (new ≡ old))

-- a type can be added to types: it is not among them, and there is room
abbrev pub CanAdd : List «Type» → «Type» → Type 0
CanAdd old t = (¬ (Contains old t)) × (length old < largest_u32)

-- a type made of `inner` was added, which could be added, or it can't be
abbrev pub IsNewType : List «Type» → TypeInner → List «Type» → Bool → Type 0
IsNewType old inner new added =
    let t : «Type» = record { name = None; inner = inner } in
    MatchBool added ((new ≡ old ++ t ∷ []) × CanAdd old t) (¬ (CanAdd old t))

-- the type that the words after `type` describe was added, which could be added, or it can't be, or there is none
abbrev pub IsTypeAdded : List «Type» → List (List ℕ) → List «Type» → Bool → Type 0
IsTypeAdded old words new added = MatchOption (type_of words) (added ≡ false) (λ inner. IsNewType old inner new added)

-- an item was added to an arena that had room, or the arena has none
abbrev pub IsNewItem : {A : Type 0} → List A → A → List A → Bool → Type 0
IsNewItem old item new added =
    MatchBool added ((new ≡ old ++ item ∷ []) × (length old < largest_u32)) (largest_u32 ≤ length old)

-- what lines say together, with each setting that they set
abbrev pub so_far : List Line_ → ContentsSoFar
so_far said = record {
  «module» = module_of said;
  flags = first_in flags_in said;
  capabilities = first_in capabilities_in said;
  resolved = first_in resolved_in said;
}

-- the contents: overrides don't have to have their values unless that was said
abbrev pub finished : ContentsSoFar → Contents
finished read = record {
  «module» = read.«module»;
  flags = read.flags;
  capabilities = read.capabilities;
  resolved = unwrap_or read.resolved false;
}

-- after lines that say `old`, the line `line` is consistent with them and makes them say `new`, or is not, whatever
-- follows
abbrev pub IsAdded : ContentsSoFar → Line_ → ContentsSoFar → Bool → Type 0
IsAdded old line new added = (said : List Line_) → AreConsistent said → old ≡ so_far said →
    MatchBool added (AreConsistent (said ++ line ∷ []) × (new ≡ so_far (said ++ line ∷ [])))
    ((after : List Line_) → ¬ (AreConsistent (said ++ line ∷ [] ++ after)))

-- after lines that say `old`, a line of these words is added as `IsAdded` says; `added` is
-- false if the words have no form
abbrev pub AreAdded : ContentsSoFar → List (List ℕ) → ContentsSoFar → Bool → Type 0
AreAdded old words new added = MatchOption (line_of words) (added ≡ false) (λ line. IsAdded old line new added)

-- `read` is what `lines`, the lines of a text so far, say
pub record ReadSoFar (lines : List (List ℕ)) (read : ContentsSoFar) : Type 0 where
  pub said : List Line_
  pub forms : AreForms lines said
  pub consistent : AreConsistent said
  pub contents_are : read ≡ so_far said

-- no text that begins with `lines` can be read
abbrev pub CannotBegin : List (List ℕ) → Type 0
CannotBegin lines = (after : List (List ℕ)) → ¬ (IsReadable (lines ++ after))

-- after lines that say `old`, the line `line` makes them say `new`, or no text can begin with them
abbrev pub IsReadNext : ContentsSoFar → List ℕ → ContentsSoFar → Bool → Type 0
IsReadNext old line new read =
    (lines : List (List ℕ)) → ReadSoFar lines old
    → MatchBool read (ReadSoFar (lines ++ line ∷ []) new) (CannotBegin (lines ++ line ∷ []))

-- the contents are what `lines` say, or the number is of the first line by which they can't be read, unless memory was
-- refused
abbrev pub AreRead : List (List ℕ) → Result Contents TextError → Type 0
AreRead lines (Ok contents) = IsText lines contents
AreRead lines (Err (Line n)) = IsFirstUnreadable lines n × (¬ (IsReadable lines))
AreRead lines (Err OutOfMemory) = ⊤
