-- What items say together once nothing is open, and that what is open can always be ended.
use Rattle.std.proofs.Common.{◌≡◌, ℕ, suc, ◌+◌, ◌<◌, ◌≤◌, ◌^◌, List, [], ◌∷◌, ◌++◌, Option, None, Some, append_assoc, append-nil, arith, length, map, refl, sym, ap, ◌∙◌, subst}
use Rattle.std.specs.Prelude.{false, unwrap_or}
use Rattle.naga_arena.specs.Numbers.{largest_u32}
use Rattle.naga_ir.specs.declared.ir.Module.{Module}
use Rattle.naga_ir.specs.declared.ir.SpecialTypes.{SpecialTypes}
use Rattle.naga_draft.specs.Bodies.{IsBody}
use Rattle.naga_draft.specs.BodyParts.{CanBeginBody}
use Rattle.naga_draft.specs.Items.{AllParts, Head, Role, Sections, all_parts, all_said, begins, belongs, entry_point, function, functions_in, neither, role, said_by_part, sections, with_role}
use Rattle.naga_draft.specs.Modules.{ArePartsConsistent, CanBegin, HasNoEntryParts, Say, entry_point_of, function_of, module_of, special_types_of}
use Rattle.naga_draft.specs.declared.draft.Contents.{Contents}
use Rattle.naga_draft.specs.declared.draft.Draft.{Draft}
use Rattle.naga_draft.specs.declared.functions.OpenFunction.{OpenFunction}
use Rattle.naga_draft.specs.declared.item.Item.{Item}
use Rattle.naga_draft.specs.declared.item.Item.TheVariants.{Part}
use Rattle.naga_draft.specs.declared.item.Mark.{Mark as MarkType}
use Rattle.naga_draft.specs.declared.item.Part.{Part as PartType}
use Rattle.naga_draft.specs.declared.item.Part.TheVariants.{Mark}
use Rattle.naga_draft.specs.Drafts.{AreAdded, AreClosed, AreFinished, AreSections, IsOpenAfter, IsSaid, contents_of, with_special_types}
use Rattle.naga_draft.specs.OpenFunctions.{AreParts, IsSection}
use Rattle.naga_draft.proofs.BodyLaws.{read-begins}
use Rattle.naga_draft.proofs.OpenLaws.{closed_already, entry_end, function_end, same_count, still_said}
use Rattle.naga_draft.proofs.SaidLaws.{parts_more, pick_few}
use Rattle.naga_draft.proofs.SectionLaws.{joined, joined_last, sections_joined}

-- special types that are set once, in place of none
special_set : (set : Option (Option ℕ × Option ℕ × Option ℕ)) (others : List ℕ) → with_special_types set (special_types_of None others) ≡ special_types_of set others
special_set None others = refl
special_set (Some set) others = refl

-- items say together what a draft says, once none of their sections is open
pub closed_says : (items : List Item) (d : Draft) → AreClosed items d → Say items (contents_of d)
closed_says items d h = record {
  consistent = h.said.consistent;
  room_for_functions = h.room_for_functions;
  no_part_before = h.no_part_before;
  functions = h.finished.functions_are;
  entry_points = h.finished.entry_points_are;
  contents_are = λ j. record {
    «module» = (ap (λ (m : Module). record m { special_types = with_special_types d.special_types m.special_types; functions = d.«module».functions; entry_points = d.«module».entry_points }) h.said.module_is
        ∙ ap (λ (special : SpecialTypes). record (module_of (all_said items) d.«module».functions d.«module».entry_points) { special_types = special }) (special_set d.special_types (all_said items).predeclared_types)
        ∙ ap (λ (o : Option (Option ℕ × Option ℕ × Option ℕ)). record (module_of (all_said items) d.«module».functions d.«module».entry_points) { special_types = special_types_of o (all_said items).predeclared_types }) h.said.special_types_are) j;
    flags = h.said.flags_are j;
    capabilities = h.said.capabilities_are j;
    resolved = unwrap_or (h.said.resolved_is j) false;
  };
}

-- parts and some marks say what the parts say, and the marks
marks_later : (parts : List PartType) (ms : List MarkType) → all_parts (parts ++ map Mark ms) ≡ record (all_parts parts) { marks = (all_parts parts).marks ++ ms }
marks_later parts [] = ap all_parts (append-nil parts) ∙ (λ j. record (all_parts parts) { marks = sym (append-nil (all_parts parts).marks) j })
marks_later parts (m ∷ ms) =
    ap all_parts (sym (append_assoc parts (Mark m ∷ []) (map Mark ms))) ∙ marks_later (parts ++ Mark m ∷ []) ms
    ∙ ap (λ (s : AllParts). record s { marks = s.marks ++ ms }) (parts_more parts (Mark m))
    ∙ (λ j. record (all_parts parts) { marks = append_assoc (all_parts parts).marks (m ∷ []) ms j })

-- marks leave parts consistent
still_consistent : (s : AllParts) (ms : List MarkType) → ArePartsConsistent s → ArePartsConsistent (record s { marks = s.marks ++ ms })
still_consistent s ms c = record {
  results = c.results;
  filter_leaves = c.filter_leaves;
  workgroup_sizes = c.workgroup_sizes;
  stages = c.stages;
  workgroup_size = c.workgroup_size;
  task_payloads = c.task_payloads;
  mesh_outputs = c.mesh_outputs;
  room_for_local_variables = c.room_for_local_variables;
  room_for_expressions = c.room_for_expressions;
}

-- marks of a body as items
abbrev as_items : List MarkType → List Item
as_items ms = map (λ m. Part (Mark m)) ms

-- marks leave what items say besides functions and entry points
items_later : (items : List Item) (ms : List MarkType) → all_said (items ++ as_items ms) ≡ all_said items
items_later items [] = ap all_said (append-nil items)
items_later items (m ∷ ms) = ap all_said (sym (append_assoc items (Part (Mark m) ∷ []) (as_items ms))) ∙ items_later (items ++ Part (Mark m) ∷ []) ms ∙ still_said items (Part (Mark m)) refl

-- the sections of marks alone
sections_of_marks : (ms : List MarkType) → sections (as_items ms) ≡ (map Mark ms, [])
sections_of_marks [] = refl
sections_of_marks (m ∷ ms) = ap (with_role (belongs (Mark m))) (sections_of_marks ms)

-- items whose last section is a function or an entry point say something together
ended : (items : List Item) (d : Draft) → IsSaid (all_said items) d → length (functions_in (sections items).1) ≤ largest_u32 → (before : List (Head × List PartType)) (head : Head) (parts : List PartType)
    → sections items ≡ ([], before ++ (head, parts) ∷ []) → AreFinished before d.«module».functions d.«module».entry_points → IsSection head parts → (contents : Contents) × Say items contents
ended items d said room before (function name) parts at done is =
    (_, closed_says items _ (function_end items d said room before (function name) parts at done is.0 is.1 (d.«module».functions ++ is.0 ∷ []) refl))
ended items d said room before (entry_point name) parts at done is =
    (_, closed_says items _ (entry_end items d said room before (entry_point name) parts at done is.0 is.1 (d.«module».entry_points ++ is.0 ∷ []) refl))

-- parts and marks that complete a body are a section
completed : (head : Head) (parts : List PartType) (current : OpenFunction) → AreParts head parts current → (more : CanBeginBody (all_parts parts).marks) → IsSection head (parts ++ map Mark more.0)
completed (function name) parts current h more =
    let s = marks_later parts more.0 in (
      function_of name (all_parts (parts ++ map Mark more.0)) more.1,
      record {
        consistent = subst ArePartsConsistent (sym s) (still_consistent (all_parts parts) more.0 h.consistent);
        no_entry_parts = subst HasNoEntryParts (sym s) (record { workgroup_sizes = h.entry.1.workgroup_sizes; stages = h.entry.1.stages; workgroup_size = h.entry.1.workgroup_size; task_payloads = h.entry.1.task_payloads; mesh_outputs = h.entry.1.mesh_outputs });
        body = subst (λ (s : AllParts). IsBody s.marks more.1) (sym s) more.2;
        function_is = refl;
      },
    )
completed (entry_point name) parts current h more =
    let s = marks_later parts more.0 in (
      entry_point_of name (all_parts (parts ++ map Mark more.0)) more.1,
      record {
        consistent = subst ArePartsConsistent (sym s) (still_consistent (all_parts parts) more.0 h.consistent);
        body = subst (λ (s : AllParts). IsBody s.marks more.1) (sym s) more.2;
        entry_point_is = refl;
      },
    )

-- how many parts sections have
abbrev parts_in : List (Head × List PartType) → ℕ
parts_in [] = 0
parts_in (section ∷ rest) = length section.1 + parts_in rest

-- sections have no more parts than there are items
few_parts : (items : List Item) → length (sections items).0 + parts_in (sections items).1 ≤ length items
few_parts [] = omega arith
few_parts (item ∷ items) = go (role item) (few_parts items)
  where
    go : (r : Role) → length (sections items).0 + parts_in (sections items).1 ≤ length items → length (with_role r (sections items)).0 + parts_in (with_role r (sections items)).1 ≤ suc (length items)
    go (begins head) few = omega (arith, few)
    go (belongs p) few = omega (arith, few)
    go neither few = omega (arith, few)

-- the last of sections has no more parts than all
last_parts : (before : List (Head × List PartType)) (head : Head) (parts : List PartType) → length parts ≤ parts_in (before ++ (head, parts) ∷ [])
last_parts [] head parts = omega arith
last_parts (section ∷ rest) head parts = let few = last_parts rest head parts in omega (arith, few)

-- parts have no more marks than they are
few_marks : (parts : List PartType) → length (all_parts parts).marks ≤ length parts
few_marks parts = pick_few (λ p. (said_by_part p).mark) parts

-- the last section of few items has few marks
fewer : (items : List Item) (before : List (Head × List PartType)) (head : Head) (parts : List PartType) → sections items ≡ ([], before ++ (head, parts) ∷ []) → length items < 2 ^ 63
    → length (all_parts parts).marks < 2 ^ 63
fewer items before head parts is few =
    let all = few_parts items in
    let same : parts_in (sections items).1 ≡ parts_in (before ++ (head, parts) ∷ []) = ap (λ (s : Sections). parts_in s.1) is in
    let last = last_parts before head parts in
    let marks = few_marks parts in
    omega (arith, few, all, same, last, marks)

-- what was added can begin a module
pub added_begins : (items : List Item) (d : Draft) → length items < 2 ^ 63 → AreAdded items d → CanBegin items
added_begins items d few_items h = go d.current refl
  where
    go : (current : Option OpenFunction) → d.current ≡ current → CanBegin items
    go None none = ([], contents_of (record d { current = None }), subst (λ is. Say is (contents_of (record d { current = None }))) (sym (append-nil items)) (closed_says items _ (closed_already items d h none)))
    go (Some current) is =
        let o : IsOpenAfter (sections items) d.«module».functions d.«module».entry_points current = subst (AreSections (sections items) d.«module».functions d.«module».entry_points) is h.sections_are in
        let few_marks : length (all_parts o.parts).marks < 2 ^ 63 = fewer items o.before o.head o.parts o.sections_are few_items in
        let more = read-begins (all_parts o.parts).marks current.blocks o.current_is.blocks few_marks in
        let at : sections (items ++ as_items more.0) ≡ ([], o.before ++ (o.head, o.parts ++ map Mark more.0) ∷ []) =
        sections_joined items (as_items more.0) ∙ ap (joined (sections items)) (sections_of_marks more.0) ∙ ap (λ (s : Sections). joined s (map Mark more.0, [])) o.sections_are
        ∙ joined_last o.before o.head o.parts (map Mark more.0, []) ∙ (λ j. ([], append-nil (o.before ++ (o.head, o.parts ++ map Mark more.0) ∷ []) j)) in
        let few = subst (λ (s : Sections). length (functions_in s.1) ≤ largest_u32) o.sections_are h.room_for_functions in
        let room : length (functions_in (sections (items ++ as_items more.0)).1) ≤ largest_u32 =
        subst (λ (s : Sections). length (functions_in s.1) ≤ largest_u32) (sym at) (subst (λ n. n ≤ largest_u32) (same_count o.before o.head o.parts (o.parts ++ map Mark more.0)) few) in
        let whole = ended (items ++ as_items more.0) d (subst (λ s. IsSaid s d) (sym (items_later items more.0)) h.said) room o.before o.head (o.parts ++ map Mark more.0) at o.finished
        (completed o.head o.parts current o.current_is more) in
        (as_items more.0, whole.0, whole.1)
