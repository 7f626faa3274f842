-- Functions and entry points of a module while its items are read: heads, parts, and their ends.
use Rattle.std.proofs.Common.{◌≡◌, ℕ, ◌<◌, ◌≤◌, suc, List, [], ◌∷◌, ◌++◌, Option, None, Some, append_assoc, append-nil, arith, length, length-append, refl, sym, ap, ◌∙◌, subst}
use Rattle.std.specs.List.{AllZip}
use Rattle.std.specs.Prelude.{IfErr, IfOk, Result}
use Rattle.std.proofs.lemmas.List.Elements.{filter_map-append}
use Rattle.std.proofs.lemmas.Result.{IfErr-weaker, IfOk-weaker}
use Rattle.naga_arena.specs.Numbers.{largest_u32}
use Rattle.naga_ir.specs.declared.ir.EntryPoint.{EntryPoint as EntryPointType}
use Rattle.naga_ir.specs.declared.ir.Function.{Function as FunctionType}
use Rattle.naga_draft.specs.Items.{AllSaid, Head, Sections, all_said, as_entry_point, as_function, entry_point, entry_points_in, function, functions_in, nothing, said_by, sections}
use Rattle.naga_draft.specs.Modules.{CanBegin, IsEntryPointOf, IsFunctionOf, Say}
use Rattle.naga_ir.specs.declared.ir.Module.{Module}
use Rattle.naga_draft.specs.declared.draft.Contents.{Contents}
use Rattle.naga_draft.specs.declared.draft.Draft.{Draft}
use Rattle.naga_draft.specs.declared.functions.Finished.{Finished}
use Rattle.naga_draft.specs.declared.functions.Finished.TheVariants as finished
use Rattle.naga_draft.specs.declared.functions.OpenFunction.{OpenFunction}
use Rattle.naga_draft.specs.declared.item.Item.{Item}
use Rattle.naga_draft.specs.declared.item.Item.TheVariants.{Function, EntryPoint, Part}
use Rattle.naga_draft.specs.declared.item.Part.{Part as PartType}
use Rattle.naga_draft.specs.declared.unread.Unread.{Unread}
use Rattle.naga_draft.specs.declared.unread.Unread.TheVariants as unread
use Rattle.naga_draft.specs.Drafts.{AreAdded, AreClosed, AreFinished, AreSections, IsOpenAfter, IsSaid, IsUnfinished}
use Rattle.naga_draft.specs.OpenFunctions.{AreParts, IsFinished, IsSection, SaysNoBlocks}
use Rattle.naga_draft.proofs.SaidLaws.{items_more, with_item}
use Rattle.naga_draft.proofs.SectionLaws.{joined, joined_last, sections_joined, with_no_parts}

-- the sections of a function and an entry point
abbrev Section : Type 0
Section = Head × List PartType

-- how many functions there are doesn't depend on the parts of the last
pub same_count : (before : List Section) (head : Head) (ps qs : List PartType) → length (functions_in (before ++ (head, ps) ∷ [])) ≡ length (functions_in (before ++ (head, qs) ∷ []))
same_count [] (function name) ps qs = refl
same_count [] (entry_point name) ps qs = refl
same_count ((function name, parts) ∷ rest) head ps qs = ap suc (same_count rest head ps qs)
same_count ((entry_point name, parts) ∷ rest) head ps qs = same_count rest head ps qs

-- each of sections that are functions and entry points is one
section_in : (before : List Section) (head : Head) (parts : List PartType) (after : List Section) (fs : List FunctionType) (es : List EntryPointType)
    → AllZip IsFunctionOf (functions_in (before ++ (head, parts) ∷ after)) fs → AllZip IsEntryPointOf (entry_points_in (before ++ (head, parts) ∷ after)) es → IsSection head parts
section_in [] (function name) parts after [] es fh eh = absurd fh
section_in [] (function name) parts after (f ∷ fs) es fh eh = (f, fh.0)
section_in [] (entry_point name) parts after fs [] fh eh = absurd eh
section_in [] (entry_point name) parts after fs (e ∷ es) fh eh = (e, eh.0)
section_in ((function name, ps) ∷ rest) head parts after [] es fh eh = absurd fh
section_in ((function name, ps) ∷ rest) head parts after (f ∷ fs) es fh eh = section_in rest head parts after fs es fh.1 eh
section_in ((entry_point name, ps) ∷ rest) head parts after fs [] fh eh = absurd eh
section_in ((entry_point name, ps) ∷ rest) head parts after fs (e ∷ es) fh eh = section_in rest head parts after fs es fh eh.1

-- a section of items that say something is a function or an entry point
said_section : (items : List Item) (contents : Contents) (before : List Section) (head : Head) (parts : List PartType) (after : List Section)
    → sections items ≡ ([], before ++ (head, parts) ∷ after) → Say items contents → IsSection head parts
said_section items contents before head parts after is say =
    section_in before head parts after contents.«module».functions contents.«module».entry_points
    (subst (λ (all : Sections). AllZip IsFunctionOf (functions_in all.1) contents.«module».functions) is say.functions)
    (subst (λ (all : Sections). AllZip IsEntryPointOf (entry_points_in all.1) contents.«module».entry_points) is say.entry_points)

-- one more of two lists is related
zip_more : {A B : Type 0} (R : A → B → Type 0) (xs : List A) (ys : List B) (x : A) (y : B) → AllZip R xs ys → R x y → AllZip R (xs ++ x ∷ []) (ys ++ y ∷ [])
zip_more R [] [] x y h r = (r, tt)
zip_more R [] (b ∷ ys) x y h r = absurd h
zip_more R (a ∷ xs) [] x y h r = absurd h
zip_more R (a ∷ xs) (b ∷ ys) x y h r = (h.0, zip_more R xs ys x y h.1 r)

-- lists that are related are as long
zip_long : {A B : Type 0} (R : A → B → Type 0) (xs : List A) (ys : List B) → AllZip R xs ys → length xs ≡ length ys
zip_long R [] [] h = refl
zip_long R [] (b ∷ ys) h = absurd h
zip_long R (a ∷ xs) [] h = absurd h
zip_long R (a ∷ xs) (b ∷ ys) h = ap suc (zip_long R xs ys h.1)

-- an item that says nothing of them leaves what items say
pub still_said : (items : List Item) (x : Item) → said_by x ≡ nothing → all_said (items ++ x ∷ []) ≡ all_said items
still_said items x none = items_more items x ∙ ap (with_item (all_said items)) none

-- what a draft has does not depend on what is open
said_current : (s : AllSaid) (d : Draft) (current : Option OpenFunction) → IsSaid s d → IsSaid s (record d { current = current })
said_current s d current h = record {
  consistent = h.consistent;
  module_is = h.module_is;
  flags_are = h.flags_are;
  capabilities_are = h.capabilities_are;
  resolved_is = h.resolved_is;
  special_types_are = h.special_types_are;
}

said_functions : (s : AllSaid) (d : Draft) (xs : List FunctionType) → IsSaid s d → IsSaid s (record d { «module» = record (d.«module») { functions = xs }; current = None })
said_functions s d xs h = record {
  consistent = h.consistent;
  module_is = ap (λ (m : Module). record m { functions = xs; entry_points = d.«module».entry_points }) h.module_is;
  flags_are = h.flags_are;
  capabilities_are = h.capabilities_are;
  resolved_is = h.resolved_is;
  special_types_are = h.special_types_are;
}

said_entry_points : (s : AllSaid) (d : Draft) (xs : List EntryPointType) → IsSaid s d → IsSaid s (record d { «module» = record (d.«module») { entry_points = xs }; current = None })
said_entry_points s d xs h = record {
  consistent = h.consistent;
  module_is = ap (λ (m : Module). record m { functions = d.«module».functions; entry_points = xs }) h.module_is;
  flags_are = h.flags_are;
  capabilities_are = h.capabilities_are;
  resolved_is = h.resolved_is;
  special_types_are = h.special_types_are;
}

-- the sections after a part, of which the last has it
sections_with_part : (items : List Item) (p : PartType) (before : List Section) (head : Head) (parts : List PartType) → sections items ≡ ([], before ++ (head, parts) ∷ [])
    → sections (items ++ Part p ∷ []) ≡ ([], before ++ (head, parts ++ p ∷ []) ∷ [])
sections_with_part items p before head parts is =
    sections_joined items (Part p ∷ []) ∙ ap (λ (s : Sections). joined s (p ∷ [], [])) is ∙ joined_last before head parts (p ∷ [], [])
    ∙ (λ j. ([], append-nil (before ++ (head, parts ++ p ∷ []) ∷ []) j))

module _ (items : List Item) (old : Draft) (whole : IsSaid (all_said items) old) (room : length (functions_in (sections items).1) ≤ largest_u32) where
  -- the last section was finished as a function
  pub function_end : (before : List Section) (head : Head) (parts : List PartType) → sections items ≡ ([], before ++ (head, parts) ∷ []) → AreFinished before old.«module».functions old.«module».entry_points
      → (f : FunctionType) → IsFinished head parts (finished.Function f) → (xs : List FunctionType) → xs ≡ old.«module».functions ++ f ∷ []
      → AreClosed items (record old { «module» = record (old.«module») { functions = xs }; current = None })
  function_end before (entry_point name) parts at done f is xs e = absurd is
  function_end before (function name) parts at done f is xs e = record {
    said = said_functions (all_said items) old xs whole;
    room_for_functions = room;
    no_part_before = ap (λ (s : Sections). s.0) at;
    finished = record {
      functions_are = subst (λ (s : Sections). AllZip IsFunctionOf (functions_in s.1) xs) (sym at)
          (subst (λ l. AllZip IsFunctionOf l xs) (sym (filter_map-append as_function before ((function name, parts) ∷ [])))
          (subst (AllZip IsFunctionOf (functions_in before ++ (name, parts) ∷ [])) (sym e) (zip_more IsFunctionOf (functions_in before) old.«module».functions (name, parts) f done.functions_are is)));
      entry_points_are = subst (λ (s : Sections). AllZip IsEntryPointOf (entry_points_in s.1) old.«module».entry_points) (sym at)
          (subst (λ l. AllZip IsEntryPointOf l old.«module».entry_points) (sym (filter_map-append as_entry_point before ((function name, parts) ∷ []) ∙ append-nil (entry_points_in before))) done.entry_points_are);
    };
    none_current = refl;
  }

  -- the last section was finished as an entry point
  pub entry_end : (before : List Section) (head : Head) (parts : List PartType) → sections items ≡ ([], before ++ (head, parts) ∷ []) → AreFinished before old.«module».functions old.«module».entry_points
      → (e : EntryPointType) → IsFinished head parts (finished.EntryPoint e) → (xs : List EntryPointType) → xs ≡ old.«module».entry_points ++ e ∷ []
      → AreClosed items (record old { «module» = record (old.«module») { entry_points = xs }; current = None })
  entry_end before (function name) parts at done f is xs e = absurd is
  entry_end before (entry_point name) parts at done f is xs e = record {
    said = said_entry_points (all_said items) old xs whole;
    room_for_functions = room;
    no_part_before = ap (λ (s : Sections). s.0) at;
    finished = record {
      functions_are = subst (λ (s : Sections). AllZip IsFunctionOf (functions_in s.1) old.«module».functions) (sym at)
          (subst (λ l. AllZip IsFunctionOf l old.«module».functions) (sym (filter_map-append as_function before ((entry_point name, parts) ∷ []) ∙ append-nil (functions_in before))) done.functions_are);
      entry_points_are = subst (λ (s : Sections). AllZip IsEntryPointOf (entry_points_in s.1) xs) (sym at)
          (subst (λ l. AllZip IsEntryPointOf l xs) (sym (filter_map-append as_entry_point before ((entry_point name, parts) ∷ [])))
          (subst (AllZip IsEntryPointOf (entry_points_in before ++ (name, parts) ∷ [])) (sym e) (zip_more IsEntryPointOf (entry_points_in before) old.«module».entry_points (name, parts) f done.entry_points_are is)));
    };
    none_current = refl;
  }

module _ (items : List Item) (old : Draft) (h : AreAdded items old) where
  -- what is open, if something is
  last : (current : OpenFunction) → old.current ≡ Some current → IsOpenAfter (sections items) old.«module».functions old.«module».entry_points current
  last current is = subst (AreSections (sections items) old.«module».functions old.«module».entry_points) is h.sections_are

  -- a part was added to what is open
  pub part_added : (p : PartType) (current : OpenFunction) → old.current ≡ Some current → SaysNoBlocks p → (result : Result (Unit {0}) Unread) (new : OpenFunction)
      → ((head : Head) (parts : List PartType) → AreParts head parts current → SaysNoBlocks p → IfOk result (λ _. AreParts head (parts ++ p ∷ []) new))
      → IfOk result (λ _. AreAdded (items ++ Part p ∷ []) (record old { current = Some new }))
  part_added p current is plain result new added =
      let o = last current is in
      let grown = sections_with_part items p o.before o.head o.parts o.sections_are in
      IfOk-weaker result _ _ (λ _ a. record {
        said = subst (λ s. IsSaid s (record old { current = Some new })) (sym (still_said items (Part p) refl)) (said_current (all_said items) old (Some new) h.said);
        room_for_functions = subst (λ (s : Sections). length (functions_in s.1) ≤ largest_u32) (sym grown)
            (let few = subst (λ (s : Sections). length (functions_in s.1) ≤ largest_u32) o.sections_are h.room_for_functions in
            let same = same_count o.before o.head o.parts (o.parts ++ p ∷ []) in omega (arith, few, same));
        sections_are = record {
          before = o.before;
          head = o.head;
          parts = o.parts ++ p ∷ [];
          sections_are = grown;
          finished = o.finished;
          current_is = a;
        };
      }) (added o.head o.parts o.current_is plain)

  -- a part that can't follow the parts of what is open can't follow the items
  pub part_refused : (p : PartType) (current : OpenFunction) → old.current ≡ Some current → (result : Result (Unit {0}) Unread)
      → ((head : Head) (parts : List PartType) → AreParts head parts current → IfErr result (λ e. e ≡ unread.Item → (more : List PartType) → ¬ (IsSection head (parts ++ p ∷ more))))
      → IfErr result (λ e. e ≡ unread.Item → ¬ (CanBegin (items ++ Part p ∷ [])))
  part_refused p current is result refused =
      let o = last current is in
      let grown = sections_with_part items p o.before o.head o.parts o.sections_are in
      IfErr-weaker result _ _ (λ e stuck item begins.
      let later = sections begins.0 in
      let all : sections ((items ++ Part p ∷ []) ++ begins.0) ≡ ([], o.before ++ (o.head, (o.parts ++ p ∷ []) ++ later.0) ∷ later.1) =
      sections_joined (items ++ Part p ∷ []) begins.0 ∙ ap (λ (s : Sections). joined s later) grown ∙ joined_last o.before o.head (o.parts ++ p ∷ []) later
      ∙ (λ j. ([], append_assoc o.before ((o.head, (o.parts ++ p ∷ []) ++ later.0) ∷ []) later.1 j)) in
      stuck item later.0 (subst (IsSection o.head) (append_assoc o.parts (p ∷ []) later.0)
      (said_section ((items ++ Part p ∷ []) ++ begins.0) begins.1 o.before o.head ((o.parts ++ p ∷ []) ++ later.0) later.1 all begins.2)))
      (refused o.head o.parts o.current_is)

  -- a part can't follow items without a head
  pub part_misplaced : (p : PartType) → old.current ≡ None → ¬ (CanBegin (items ++ Part p ∷ []))
  part_misplaced p none begins =
      let without : AreSections (sections items) old.«module».functions old.«module».entry_points None = subst (AreSections (sections items) old.«module».functions old.«module».entry_points) none h.sections_are in
      let later = sections begins.0 in
      let all : sections ((items ++ Part p ∷ []) ++ begins.0) ≡ (p ∷ later.0, later.1) =
      sections_joined (items ++ Part p ∷ []) begins.0 ∙ ap (λ (s : Sections). joined s later) (sections_joined items (Part p ∷ []) ∙ ap (λ (s : Sections). joined s (p ∷ [], [])) without.0) in
      let first : p ∷ later.0 ≡ [] = sym (ap (λ (s : Sections). s.0) all) ∙ begins.2.no_part_before in cc

  -- without something open, all sections are functions and entry points
  pub closed_already : old.current ≡ None → AreClosed items (record old { current = None })
  closed_already none =
      let without : AreSections (sections items) old.«module».functions old.«module».entry_points None = subst (AreSections (sections items) old.«module».functions old.«module».entry_points) none h.sections_are in
      record {
        said = said_current (all_said items) old None h.said;
        room_for_functions = h.room_for_functions;
        no_part_before = ap (λ (s : Sections). s.0) without.0;
        finished = record {
          functions_are = subst (λ (s : Sections). AllZip IsFunctionOf (functions_in s.1) old.«module».functions) (sym without.0) (subst (AllZip IsFunctionOf []) (sym without.1) tt);
          entry_points_are = subst (λ (s : Sections). AllZip IsEntryPointOf (entry_points_in s.1) old.«module».entry_points) (sym without.0) (subst (AllZip IsEntryPointOf []) (sym without.2) tt);
        };
        none_current = refl;
      }

  -- what is open and can't be finished lacks parts
  pub unfinished : (current : OpenFunction) → old.current ≡ Some current → (result : Result Finished Unread)
      → ((head : Head) (parts : List PartType) → AreParts head parts current → IfErr result (λ e. ¬ (IsSection head parts))) → IfErr result (λ e. IsUnfinished items)
  unfinished current is result h =
      let o = last current is in
      IfErr-weaker result _ _ (λ e lacks. record { before = o.before; head = o.head; parts = o.parts; sections_are = o.sections_are; unfinished = lacks }) (h o.head o.parts o.current_is)

  -- what is open was finished as a function, which was added
  pub function_closed : (current : OpenFunction) → old.current ≡ Some current → (f : FunctionType)
      → ((head : Head) (parts : List PartType) → AreParts head parts current → IsFinished head parts (finished.Function f)) → (xs : List FunctionType) → xs ≡ old.«module».functions ++ f ∷ []
      → (open_now : Option OpenFunction) → open_now ≡ None → AreClosed items (record old { «module» = record (old.«module») { functions = xs }; current = open_now })
  function_closed current is f end xs e open_now none =
      let o = last current is in
      subst (λ n. AreClosed items (record old { «module» = record (old.«module») { functions = xs }; current = n })) (sym none) (function_end items old h.said h.room_for_functions o.before o.head o.parts o.sections_are o.finished f (end o.head o.parts o.current_is) xs e)

  -- what is open was finished as an entry point, which was added
  pub entry_closed : (current : OpenFunction) → old.current ≡ Some current → (e : EntryPointType)
      → ((head : Head) (parts : List PartType) → AreParts head parts current → IsFinished head parts (finished.EntryPoint e)) → (xs : List EntryPointType) → xs ≡ old.«module».entry_points ++ e ∷ []
      → (open_now : Option OpenFunction) → open_now ≡ None → AreClosed items (record old { «module» = record (old.«module») { entry_points = xs }; current = open_now })
  entry_closed current is f end xs e open_now none =
      let o = last current is in
      subst (λ n. AreClosed items (record old { «module» = record (old.«module») { entry_points = xs }; current = n })) (sym none) (entry_end items old h.said h.room_for_functions o.before o.head o.parts o.sections_are o.finished f (end o.head o.parts o.current_is) xs e)

  -- a function that is finished has room
  function_room : (before : List Section) (head : Head) (parts : List PartType) → sections items ≡ ([], before ++ (head, parts) ∷ []) → AreFinished before old.«module».functions old.«module».entry_points
      → (f : FunctionType) → IsFinished head parts (finished.Function f) → length old.«module».functions < largest_u32
  function_room before (entry_point name) parts at done f is = absurd is
  function_room before (function name) parts at done f is =
      let few = subst (λ (s : Sections). length (functions_in s.1) ≤ largest_u32) at h.room_for_functions in
      let split = ap length (filter_map-append as_function before ((function name, parts) ∷ [])) in
      let long = zip_long IsFunctionOf (functions_in before) old.«module».functions done.functions_are in
      omega (arith, few, simp length-append at split, long)

  pub function_fits : (current : OpenFunction) → old.current ≡ Some current → (f : FunctionType)
      → ((head : Head) (parts : List PartType) → AreParts head parts current → IsFinished head parts (finished.Function f)) → length old.«module».functions < largest_u32
  function_fits current is f end = let o = last current is in function_room o.before o.head o.parts o.sections_are o.finished f (end o.head o.parts o.current_is)

-- the sections after a head, of which the last has no parts
sections_with_head : (items : List Item) (x : Item) (head : Head) → sections (x ∷ []) ≡ ([], (head, []) ∷ []) → (sections items).0 ≡ []
    → sections (items ++ x ∷ []) ≡ ([], (sections items).1 ++ (head, []) ∷ [])
sections_with_head items x head is none = sections_joined items (x ∷ []) ∙ ap (joined (sections items)) is ∙ go (sections items) none
  where
    go : (s : Sections) → s.0 ≡ [] → joined s ([], (head, []) ∷ []) ≡ ([], s.1 ++ (head, []) ∷ [])
    go (before, []) none = λ j. ((append-nil before ∙ none) j, (head, []) ∷ [])
    go (before, section ∷ rest) none = λ j. (none j, with_no_parts (section ∷ rest) j ++ (head, []) ∷ [])

module _ (items : List Item) (old : Draft) (h : AreClosed items old) where
  -- a head was added after items of which none is open
  head_added : (x : Item) (head : Head) (new : OpenFunction) → said_by x ≡ nothing → sections (x ∷ []) ≡ ([], (head, []) ∷ []) → AreParts head [] new
      → length (functions_in ((sections items).1 ++ (head, []) ∷ [])) ≤ largest_u32 → AreAdded (items ++ x ∷ []) (record old { current = Some new })
  head_added x head new none is empty room =
      let grown = sections_with_head items x head is h.no_part_before in record {
        said = subst (λ s. IsSaid s (record old { current = Some new })) (sym (still_said items x none)) (said_current (all_said items) old (Some new) h.said);
        room_for_functions = subst (λ (s : Sections). length (functions_in s.1) ≤ largest_u32) (sym grown) room;
        sections_are = record { before = (sections items).1; head = head; parts = []; sections_are = grown; finished = h.finished; current_is = empty };
      }

  pub function_added : (name : Option (List ℕ)) (new : OpenFunction) → AreParts (function name) [] new → length old.«module».functions < largest_u32 → AreAdded (items ++ Function name ∷ []) (record old { current = Some new })
  function_added name new empty room =
      let long = zip_long IsFunctionOf (functions_in (sections items).1) old.«module».functions h.finished.functions_are in
      let split = ap length (filter_map-append as_function (sections items).1 ((function name, []) ∷ [])) in
      head_added (Function name) (function name) new refl refl empty (omega (arith, room, long, simp length-append at split))

  pub entry_added : (name : List ℕ) (new : OpenFunction) → AreParts (entry_point name) [] new → AreAdded (items ++ EntryPoint name ∷ []) (record old { current = Some new })
  entry_added name new empty =
      let few = h.room_for_functions in
      let split = ap length (filter_map-append as_function (sections items).1 ((entry_point name, []) ∷ [])) in
      head_added (EntryPoint name) (entry_point name) new refl refl empty (omega (arith, few, simp length-append at split))

  -- a function can't be added to as many as there may be
  pub function_too_many : (name : Option (List ℕ)) → largest_u32 ≤ length old.«module».functions → ¬ (CanBegin (items ++ Function name ∷ []))
  function_too_many name full begins =
      let later = sections begins.0 in
      let grown = sections_with_head items (Function name) (function name) refl h.no_part_before in
      let all : sections ((items ++ Function name ∷ []) ++ begins.0) ≡ ([], ((sections items).1 ++ (function name, later.0) ∷ []) ++ later.1) =
      sections_joined (items ++ Function name ∷ []) begins.0 ∙ ap (λ (s : Sections). joined s later) grown ∙ joined_last (sections items).1 (function name) [] later in
      let few = subst (λ (s : Sections). length (functions_in s.1) ≤ largest_u32) all begins.2.room_for_functions in
      let front = ap length (filter_map-append as_function ((sections items).1 ++ (function name, later.0) ∷ []) later.1) in
      let back = ap length (filter_map-append as_function (sections items).1 ((function name, later.0) ∷ [])) in
      let long = zip_long IsFunctionOf (functions_in (sections items).1) old.«module».functions h.finished.functions_are in
      omega (arith, full, few, simp length-append at front, simp length-append at back, long)

-- a head can't follow a section that lacks parts
pub head_refused : (items : List Item) (x : Item) (head : Head) → sections (x ∷ []) ≡ ([], (head, []) ∷ []) → IsUnfinished items → ¬ (CanBegin (items ++ x ∷ []))
head_refused items x head is u begins =
    let later = sections begins.0 in
    let grown : sections (items ++ x ∷ []) ≡ ([], (u.before ++ (u.head, u.parts) ∷ []) ++ (head, []) ∷ []) =
    sections_joined items (x ∷ []) ∙ ap (λ (s : Sections). joined s (sections (x ∷ []))) u.sections_are ∙ ap (joined ([], u.before ++ (u.head, u.parts) ∷ [])) is
    ∙ joined_last u.before u.head u.parts ([], (head, []) ∷ [])
    ∙ (λ j. ([], (u.before ++ (u.head, append-nil u.parts j) ∷ []) ++ (head, []) ∷ [])) in
    let all : sections ((items ++ x ∷ []) ++ begins.0) ≡ ([], u.before ++ (u.head, u.parts) ∷ ((head, later.0) ∷ later.1)) =
    sections_joined (items ++ x ∷ []) begins.0 ∙ ap (λ (s : Sections). joined s later) grown ∙ joined_last (u.before ++ (u.head, u.parts) ∷ []) head [] later
    ∙ (λ j. ([], append_assoc (u.before ++ (u.head, u.parts) ∷ []) ((head, later.0) ∷ []) later.1 j))
    ∙ (λ j. ([], append_assoc u.before ((u.head, u.parts) ∷ []) ((head, later.0) ∷ later.1) j)) in
    u.unfinished (said_section ((items ++ x ∷ []) ++ begins.0) begins.1 u.before u.head u.parts ((head, later.0) ∷ later.1) all begins.2)

-- items whose last section lacks parts say nothing together
pub unfinished_says_nothing : (items : List Item) → IsUnfinished items → (contents : Contents) → ¬ (Say items contents)
unfinished_says_nothing items u contents say = u.unfinished (said_section items contents u.before u.head u.parts [] u.sections_are say)
