-- The items of a module say it, and its words are these items: words say a module, and one at most.
use Rattle.std.proofs.Common.{◌≡◌, ◌∙◌, ℕ, zero, ◌≤◌, List, [], ◌∷◌, ◌++◌, Option, None, Some, ap, append_assoc, append-nil, arith, length, map, refl, rules, subst, sym, ◌+◌, ◌*◌, ◌/◌, ◌%◌, ◌<◌, drop, false, length-append, take}
use Rattle.std.proofs.lemmas.List.{length-map}
use Rattle.std.specs.List.{AllByRecursion, AllZip, flat_map}
use Rattle.std.specs.Prelude.{false, option_to_list, unwrap_or}
use Rattle.naga_arena.specs.Numbers.{largest_u32}
use Rattle.naga_ir.specs.declared.ir.EarlyDepthTest.{EarlyDepthTest}
use Rattle.naga_ir.specs.declared.ir.EntryPoint.{EntryPoint}
use Rattle.naga_ir.specs.declared.ir.ShaderStage.{ShaderStage}
use Rattle.naga_draft.specs.declared.item.EntryStage.{EntryStage}
use Rattle.naga_ir.specs.declared.ir.Function.{Function}
use Rattle.naga_ir.specs.declared.ir.MeshStageInfo.{MeshStageInfo}
use Rattle.naga_ir.specs.declared.ir.Module.{Module}
use Rattle.naga_draft.specs.Bodies.{IsBody, marks_of_block}
use Rattle.naga_draft.specs.Items.{AllParts, AllSaid, Head, Sections, all_parts, all_said, begins, entry_point, entry_points_in, function, functions_in, neither, role, sections, with_role}
use Rattle.naga_draft.specs.Modules.{AreConsistent, ArePartsConsistent, HasNoEntryParts, IsEntryPointOf, IsFunctionOf, Say, entry_point_of, first_of, function_of, module_of, no_stage, no_workgroup, stage_in}
use Rattle.naga_draft.specs.declared.item.Item.{Item}
use Rattle.naga_draft.specs.declared.item.Mark.{Mark}
use Rattle.naga_draft.specs.declared.item.Part.{Part}
use Rattle.naga_words.specs.ModuleWords.{CanBeSaid, HaveNoTexts, IsSayable, IsSayableEntryPoint, entry_parts_in, entry_point_items, function_items, items_in, module_alone, said_size, said_stage, parts_in, AreSame, IsSameEntryPoint, IsSameFunction, words_of}
use Rattle.std.proofs.Math.Seq.{drop-append_seam, take-append_seam}
use Rattle.std.proofs.lemmas.Option.{same_Some}
use Rattle.naga_draft.specs.declared.draft.Contents.{Contents}
use Rattle.naga_words.specs.Items.{item_of}
use Rattle.naga_words.specs.Reading.{read_all}
use Rattle.naga_words.specs.Words.{IsWords, first_item, have_header}
use Rattle.naga_words.specs.Writing.{Can, item_words, words, written_item}
use Rattle.naga_words.proofs.AllLaws.{all_step, onto}
use Rattle.naga_words.proofs.ReaderLaws.{item_is, item_is_no_header, item_shortens, without}
use Rattle.naga_words.proofs.Written.{item_read}
use Rattle.naga_draft.specs.declared.item.Commented.TheVariants as on
use Rattle.naga_draft.specs.declared.item.Item.TheVariants as item
use Rattle.naga_draft.specs.declared.item.Part.TheVariants as part

-- the first of a list of one value, or of none
first_listed : {A : Type 0} (o : Option A) → first_of (option_to_list o) ≡ o
first_listed None = refl
first_listed (Some a) = refl

few_listed : {A : Type 0} (o : Option A) → length (option_to_list o) ≤ 1
few_listed None = omega arith
few_listed (Some a) = omega arith

-- comments without texts are what they are on
textless : {A : Type 0} (xs : List (A × List (List ℕ))) → AllByRecursion (λ c. c.1 ≡ []) xs → map (λ c. (c.0, [])) xs ≡ xs
textless [] h = refl
textless (x ∷ xs) h = λ j. (x.0, sym h.0 j) ∷ textless xs h.1 j

module _ {X S : Type 0} (all : List X → S) where
  -- what items of one kind say, after what others say
  segment : {A : Type 0} (make : A → X) (put : List A → S → S) → ((s : S) → s ≡ put [] s)
      → ((x : A) (items : List X) (xs : List A) (s : S) → all items ≡ put xs s → all (make x ∷ items) ≡ put (x ∷ xs) s)
      → (xs : List A) (rest : List X) (s : S) → all rest ≡ s → all (map make xs ++ rest) ≡ put xs s
  segment make put none one [] rest s h = h ∙ none s
  segment make put none one (x ∷ xs) rest s h = one x (map make xs ++ rest) xs s (segment make put none one xs rest s h)

-- functions and entry points say nothing besides
parts_said : (ps : List Part) (rest : List Item) → all_said (map item.Part ps ++ rest) ≡ all_said rest
parts_said [] rest = refl
parts_said (p ∷ ps) rest = parts_said ps rest

functions_said : (fs : List Function) (rest : List Item) → all_said (flat_map function_items fs ++ rest) ≡ all_said rest
functions_said [] rest = refl
functions_said (f ∷ fs) rest = ap all_said (append_assoc (function_items f) (flat_map function_items fs) rest) ∙ parts_said (parts_in f) (flat_map function_items fs ++ rest) ∙ functions_said fs rest

entry_points_said : (es : List EntryPoint) → all_said (flat_map entry_point_items es) ≡ all_said []
entry_points_said [] = refl
entry_points_said (e ∷ es) = parts_said (entry_parts_in e) (flat_map entry_point_items es) ∙ entry_points_said es

-- what the items of a module say
abbrev said_of : Module → AllSaid
said_of m = record {
  flags = [];
  capabilities = [];
  resolved = [];
  special_types = (m.special_types.ray_desc, m.special_types.ray_intersection, m.special_types.ray_vertex_return) ∷ [];
  predeclared_types = m.special_types.others;
  filters = m.diagnostic_filters;
  filter_leaves = option_to_list m.diagnostic_filter_leaf;
  types = m.types;
  constants = m.constants;
  overrides = m.overrides;
  global_variables = m.global_variables;
  expressions = m.global_expressions;
  on_types = m.doc_comments.types;
  on_members = m.doc_comments.struct_members;
  on_functions = m.doc_comments.functions;
  on_entry_points = m.doc_comments.entry_points;
  on_constants = m.doc_comments.constants;
  on_variables = m.doc_comments.global_variables;
}

module_said : (m : Module) → HaveNoTexts m.doc_comments → all_said (items_in m) ≡ said_of m
module_said m h =
    segment all_said item.Type_ (λ xs s. record s { types = xs ++ s.types }) (λ _. refl) (λ x _ _ _. ap (λ (s : AllSaid). record s { types = x ∷ s.types })) m.types _ _ (
    ap (λ (s : AllSaid). record s { special_types = (m.special_types.ray_desc, m.special_types.ray_intersection, m.special_types.ray_vertex_return) ∷ s.special_types }) (
    segment all_said item.PredeclaredType (λ xs s. record s { predeclared_types = xs ++ s.predeclared_types }) (λ _. refl) (λ x _ _ _. ap (λ (s : AllSaid). record s { predeclared_types = x ∷ s.predeclared_types })) m.special_types.others _ _ (
    segment all_said item.Constant (λ xs s. record s { constants = xs ++ s.constants }) (λ _. refl) (λ x _ _ _. ap (λ (s : AllSaid). record s { constants = x ∷ s.constants })) m.constants _ _ (
    segment all_said item.Override (λ xs s. record s { overrides = xs ++ s.overrides }) (λ _. refl) (λ x _ _ _. ap (λ (s : AllSaid). record s { overrides = x ∷ s.overrides })) m.overrides _ _ (
    segment all_said item.GlobalVariable (λ xs s. record s { global_variables = xs ++ s.global_variables }) (λ _. refl) (λ x _ _ _. ap (λ (s : AllSaid). record s { global_variables = x ∷ s.global_variables })) m.global_variables _ _ (
    segment all_said item.Expression (λ xs s. record s { expressions = xs ++ s.expressions }) (λ _. refl) (λ x _ _ _. ap (λ (s : AllSaid). record s { expressions = x ∷ s.expressions })) m.global_expressions _ _ (
    segment all_said item.Filter (λ xs s. record s { filters = xs ++ s.filters }) (λ _. refl) (λ x _ _ _. ap (λ (s : AllSaid). record s { filters = x ∷ s.filters })) m.diagnostic_filters _ _ (
    segment all_said item.FilterLeaf (λ xs s. record s { filter_leaves = xs ++ s.filter_leaves }) (λ _. refl) (λ x _ _ _. ap (λ (s : AllSaid). record s { filter_leaves = x ∷ s.filter_leaves })) (option_to_list m.diagnostic_filter_leaf) _ _ (
    segment all_said (λ c. item.Comment (on.Type_ c.0)) (λ xs s. record s { on_types = map (λ c. (c.0, [])) xs ++ s.on_types }) (λ _. refl) (λ x _ _ _. ap (λ (s : AllSaid). record s { on_types = (x.0, []) ∷ s.on_types })) m.doc_comments.types _ _ (
    segment all_said (λ c. item.Comment (on.Member c.0.0 c.0.1)) (λ xs s. record s { on_members = map (λ c. (c.0, [])) xs ++ s.on_members }) (λ _. refl) (λ x _ _ _. ap (λ (s : AllSaid). record s { on_members = (x.0, []) ∷ s.on_members })) m.doc_comments.struct_members _ _ (
    segment all_said (λ c. item.Comment (on.Function c.0)) (λ xs s. record s { on_functions = map (λ c. (c.0, [])) xs ++ s.on_functions }) (λ _. refl) (λ x _ _ _. ap (λ (s : AllSaid). record s { on_functions = (x.0, []) ∷ s.on_functions })) m.doc_comments.functions _ _ (
    segment all_said (λ c. item.Comment (on.EntryPoint c.0)) (λ xs s. record s { on_entry_points = map (λ c. (c.0, [])) xs ++ s.on_entry_points }) (λ _. refl) (λ x _ _ _. ap (λ (s : AllSaid). record s { on_entry_points = (x.0, []) ∷ s.on_entry_points })) m.doc_comments.entry_points _ _ (
    segment all_said (λ c. item.Comment (on.Constant c.0)) (λ xs s. record s { on_constants = map (λ c. (c.0, [])) xs ++ s.on_constants }) (λ _. refl) (λ x _ _ _. ap (λ (s : AllSaid). record s { on_constants = (x.0, []) ∷ s.on_constants })) m.doc_comments.constants _ _ (
    segment all_said (λ c. item.Comment (on.GlobalVariable c.0)) (λ xs s. record s { on_variables = map (λ c. (c.0, [])) xs ++ s.on_variables }) (λ _. refl) (λ x _ _ _. ap (λ (s : AllSaid). record s { on_variables = (x.0, []) ∷ s.on_variables })) m.doc_comments.global_variables _ _ (
    functions_said m.functions _ ∙ entry_points_said m.entry_points)))))))))))))))
    ∙ (λ j. record (said_of m) {
      types = append-nil m.types j;
      predeclared_types = append-nil m.special_types.others j;
      constants = append-nil m.constants j;
      overrides = append-nil m.overrides j;
      global_variables = append-nil m.global_variables j;
      expressions = append-nil m.global_expressions j;
      filters = append-nil m.diagnostic_filters j;
      filter_leaves = append-nil (option_to_list m.diagnostic_filter_leaf) j;
      on_types = (append-nil (map (λ c. (c.0, [])) m.doc_comments.types) ∙ textless m.doc_comments.types h.on_types) j;
      on_members = (append-nil (map (λ c. (c.0, [])) m.doc_comments.struct_members) ∙ textless m.doc_comments.struct_members h.on_members) j;
      on_functions = (append-nil (map (λ c. (c.0, [])) m.doc_comments.functions) ∙ textless m.doc_comments.functions h.on_functions) j;
      on_entry_points = (append-nil (map (λ c. (c.0, [])) m.doc_comments.entry_points) ∙ textless m.doc_comments.entry_points h.on_entry_points) j;
      on_constants = (append-nil (map (λ c. (c.0, [])) m.doc_comments.constants) ∙ textless m.doc_comments.constants h.on_constants) j;
      on_variables = (append-nil (map (λ c. (c.0, [])) m.doc_comments.global_variables) ∙ textless m.doc_comments.global_variables h.on_variables) j;
    })

-- items that neither begin anything nor belong to it leave the sections of others
skip : {A : Type 0} (make : A → Item) → ((x : A) → role (make x) ≡ neither) → (xs : List A) (rest : List Item) → sections (map make xs ++ rest) ≡ sections rest
skip make n [] rest = refl
skip make n (x ∷ xs) rest = ap (λ r. with_role r (sections (map make xs ++ rest))) (n x) ∙ skip make n xs rest

-- parts before others
parts_first : (ps : List Part) (rest : List Item) → sections (map item.Part ps ++ rest) ≡ (ps ++ (sections rest).0, (sections rest).1)
parts_first [] rest = refl
parts_first (p ∷ ps) rest = ap (λ (s : Sections). (p ∷ s.0, s.1)) (parts_first ps rest)

-- a section before others
one_section : (x : Item) (head : Head) (ps : List Part) (rest : List Item) → role x ≡ begins head → (sections rest).0 ≡ [] → sections (x ∷ (map item.Part ps ++ rest)) ≡ ([], (head, ps) ∷ (sections rest).1)
one_section x head ps rest r none =
    ap (λ r. with_role r (sections (map item.Part ps ++ rest))) r ∙ ap (λ (s : Sections). ([], (head, s.0) ∷ s.1)) (parts_first ps rest)
    ∙ (λ j. ([], (head, (ap (λ (more : List Part). ps ++ more) none ∙ append-nil ps) j) ∷ (sections rest).1))

entry_point_sections : (es : List EntryPoint) → sections (flat_map entry_point_items es) ≡ ([], map (λ e. (entry_point e.name, entry_parts_in e)) es)
entry_point_sections [] = refl
entry_point_sections (e ∷ es) =
    let later = entry_point_sections es in
    one_section (item.EntryPoint e.name) (entry_point e.name) (entry_parts_in e) (flat_map entry_point_items es) refl (ap (λ (s : Sections). s.0) later)
    ∙ ap (λ (s : Sections). ([], (entry_point e.name, entry_parts_in e) ∷ s.1)) later

function_sections : (fs : List Function) (rest : List Item) → (sections rest).0 ≡ [] → sections (flat_map function_items fs ++ rest) ≡ ([], map (λ f. (function f.name, parts_in f)) fs ++ (sections rest).1)
function_sections [] rest none = λ j. (none j, (sections rest).1)
function_sections (f ∷ fs) rest none =
    let later = function_sections fs rest none in
    ap sections (append_assoc (function_items f) (flat_map function_items fs) rest)
    ∙ one_section (item.Function f.name) (function f.name) (parts_in f) (flat_map function_items fs ++ rest) refl (ap (λ (s : Sections). s.0) later)
    ∙ ap (λ (s : Sections). ([], (function f.name, parts_in f) ∷ s.1)) later

-- the sections of functions, and then of entry points
abbrev sections_of : List Function → List EntryPoint → List (Head × List Part)
sections_of fs es = map (λ f. (function f.name, parts_in f)) fs ++ map (λ e. (entry_point e.name, entry_parts_in e)) es

module_sections : (m : Module) → sections (items_in m) ≡ ([], sections_of m.functions m.entry_points)
module_sections m =
    let last = entry_point_sections m.entry_points in
    skip item.Type_ (λ _. refl) m.types _ ∙ skip item.PredeclaredType (λ _. refl) m.special_types.others _ ∙ skip item.Constant (λ _. refl) m.constants _ ∙ skip item.Override (λ _. refl) m.overrides _
    ∙ skip item.GlobalVariable (λ _. refl) m.global_variables _ ∙ skip item.Expression (λ _. refl) m.global_expressions _ ∙ skip item.Filter (λ _. refl) m.diagnostic_filters _ ∙ skip item.FilterLeaf (λ _. refl) (option_to_list m.diagnostic_filter_leaf) _
    ∙ skip (λ c. item.Comment (on.Type_ c.0)) (λ _. refl) m.doc_comments.types _ ∙ skip (λ c. item.Comment (on.Member c.0.0 c.0.1)) (λ _. refl) m.doc_comments.struct_members _ ∙ skip (λ c. item.Comment (on.Function c.0)) (λ _. refl) m.doc_comments.functions _
    ∙ skip (λ c. item.Comment (on.EntryPoint c.0)) (λ _. refl) m.doc_comments.entry_points _ ∙ skip (λ c. item.Comment (on.Constant c.0)) (λ _. refl) m.doc_comments.constants _ ∙ skip (λ c. item.Comment (on.GlobalVariable c.0)) (λ _. refl) m.doc_comments.global_variables _
    ∙ function_sections m.functions (flat_map entry_point_items m.entry_points) (ap (λ (s : Sections). s.0) last)
    ∙ ap (λ (s : Sections). ([], map (λ f. (function f.name, parts_in f)) m.functions ++ s.1)) last

-- the functions among these sections, and the entry points
only_functions : (fs : List Function) (es : List EntryPoint) → functions_in (sections_of fs es) ≡ map (λ f. (f.name, parts_in f)) fs
only_functions [] [] = refl
only_functions [] (e ∷ es) = only_functions [] es
only_functions (f ∷ fs) es = ap (λ all. (f.name, parts_in f) ∷ all) (only_functions fs es)

only_entry_points : (fs : List Function) (es : List EntryPoint) → entry_points_in (sections_of fs es) ≡ map (λ e. (e.name, entry_parts_in e)) es
only_entry_points [] [] = refl
only_entry_points [] (e ∷ es) = ap (λ all. (e.name, entry_parts_in e) ∷ all) (only_entry_points [] es)
only_entry_points (f ∷ fs) es = only_entry_points fs es

-- the marks of a body say them
marks_said : (ms : List Mark) → all_parts (map part.Mark ms) ≡ record (all_parts []) { marks = ms }
marks_said [] = refl
marks_said (m ∷ ms) = ap (λ (s : AllParts). record s { marks = m ∷ s.marks }) (marks_said ms)

-- what the parts of a function say
abbrev parts_of : Function → AllParts
parts_of f = record {
  arguments = f.arguments;
  local_variables = f.local_variables;
  results = option_to_list f.result;
  named_expressions = f.named_expressions;
  filter_leaves = option_to_list f.diagnostic_filter_leaf;
  workgroup_sizes = [];
  stages = [];
  workgroup_size = [];
  task_payloads = [];
  mesh_outputs = [];
  expressions = f.expressions;
  marks = marks_of_block f.body;
}

function_said : (f : Function) → all_parts (parts_in f) ≡ parts_of f
function_said f =
    segment all_parts part.Argument (λ xs s. record s { arguments = xs ++ s.arguments }) (λ _. refl) (λ x _ _ _. ap (λ (s : AllParts). record s { arguments = x ∷ s.arguments })) f.arguments _ _ (
    segment all_parts part.LocalVariable (λ xs s. record s { local_variables = xs ++ s.local_variables }) (λ _. refl) (λ x _ _ _. ap (λ (s : AllParts). record s { local_variables = x ∷ s.local_variables })) f.local_variables _ _ (
    segment all_parts part.Result (λ xs s. record s { results = xs ++ s.results }) (λ _. refl) (λ x _ _ _. ap (λ (s : AllParts). record s { results = x ∷ s.results })) (option_to_list f.result) _ _ (
    segment all_parts (λ n. part.NamedExpression n.0 n.1) (λ xs s. record s { named_expressions = xs ++ s.named_expressions }) (λ _. refl) (λ x _ _ _. ap (λ (s : AllParts). record s { named_expressions = x ∷ s.named_expressions })) f.named_expressions _ _ (
    segment all_parts part.FilterLeaf (λ xs s. record s { filter_leaves = xs ++ s.filter_leaves }) (λ _. refl) (λ x _ _ _. ap (λ (s : AllParts). record s { filter_leaves = x ∷ s.filter_leaves })) (option_to_list f.diagnostic_filter_leaf) _ _ (
    segment all_parts part.Expression (λ xs s. record s { expressions = xs ++ s.expressions }) (λ _. refl) (λ x _ _ _. ap (λ (s : AllParts). record s { expressions = x ∷ s.expressions })) f.expressions _ _ (
    marks_said (marks_of_block f.body)))))))
    ∙ (λ j. record (parts_of f) {
      arguments = append-nil f.arguments j;
      local_variables = append-nil f.local_variables j;
      results = append-nil (option_to_list f.result) j;
      named_expressions = append-nil f.named_expressions j;
      filter_leaves = append-nil (option_to_list f.diagnostic_filter_leaf) j;
      expressions = append-nil f.expressions j;
    })

-- what the parts of an entry point say
abbrev entry_parts_of : EntryPoint → AllParts
entry_parts_of e = record (parts_of e.function) {
  workgroup_sizes = option_to_list e.workgroup_size_overrides;
  stages = option_to_list (said_stage e.stage e.early_depth_test);
  workgroup_size = option_to_list (said_size e.workgroup_size);
  task_payloads = option_to_list e.task_payload;
  mesh_outputs = option_to_list e.mesh_info;
}

entry_point_said : (e : EntryPoint) → all_parts (entry_parts_in e) ≡ entry_parts_of e
entry_point_said e =
    segment all_parts part.Stage (λ xs s. record s { stages = xs ++ s.stages }) (λ _. refl) (λ x _ _ _. ap (λ (s : AllParts). record s { stages = x ∷ s.stages })) (option_to_list (said_stage e.stage e.early_depth_test)) _ _ (
    segment all_parts part.WorkgroupSize (λ xs s. record s { workgroup_size = xs ++ s.workgroup_size }) (λ _. refl) (λ x _ _ _. ap (λ (s : AllParts). record s { workgroup_size = x ∷ s.workgroup_size })) (option_to_list (said_size e.workgroup_size)) _ _ (
    segment all_parts part.WorkgroupSizes (λ xs s. record s { workgroup_sizes = xs ++ s.workgroup_sizes }) (λ _. refl) (λ x _ _ _. ap (λ (s : AllParts). record s { workgroup_sizes = x ∷ s.workgroup_sizes })) (option_to_list e.workgroup_size_overrides) _ _ (
    segment all_parts part.TaskPayload (λ xs s. record s { task_payloads = xs ++ s.task_payloads }) (λ _. refl) (λ x _ _ _. ap (λ (s : AllParts). record s { task_payloads = x ∷ s.task_payloads })) (option_to_list e.task_payload) _ _ (
    segment all_parts part.MeshOutput (λ xs s. record s { mesh_outputs = xs ++ s.mesh_outputs }) (λ _. refl) (λ x _ _ _. ap (λ (s : AllParts). record s { mesh_outputs = x ∷ s.mesh_outputs })) (option_to_list e.mesh_info) _ _ (
    function_said e.function)))))
    ∙ (λ j. record (entry_parts_of e) {
      stages = append-nil (option_to_list (said_stage e.stage e.early_depth_test)) j;
      workgroup_size = append-nil (option_to_list (said_size e.workgroup_size)) j;
      workgroup_sizes = append-nil (option_to_list e.workgroup_size_overrides) j;
      task_payloads = append-nil (option_to_list e.task_payload) j;
      mesh_outputs = append-nil (option_to_list e.mesh_info) j;
    })

-- parts that say once what can be said once
listed_once : (f : Function) (stage : Option EntryStage) (size : Option (List ℕ)) (sizes : Option (List (Option ℕ))) (payload : Option ℕ) (mesh : Option MeshStageInfo) → IsSayable f
    → ArePartsConsistent (record (parts_of f) { stages = option_to_list stage; workgroup_size = option_to_list size; workgroup_sizes = option_to_list sizes; task_payloads = option_to_list payload; mesh_outputs = option_to_list mesh })
listed_once f stage size sizes payload mesh h = search (rules, few_listed)

-- a function is what its parts say
same_function : (f : Function) → f ≡ function_of f.name (parts_of f) f.body
same_function f = λ j. record f { result = sym (first_listed f.result) j; diagnostic_filter_leaf = sym (first_listed f.diagnostic_filter_leaf) j }

function_is : (f : Function) → IsSayable f → IsFunctionOf (f.name, parts_in f) f
function_is f h = let said = sym (function_said f) in record {
  consistent = subst ArePartsConsistent said (listed_once f None None None None None h);
  no_entry_parts = subst HasNoEntryParts said (record { workgroup_sizes = refl; stages = refl; workgroup_size = refl; task_payloads = refl; mesh_outputs = refl });
  body = subst (λ (s : AllParts). IsBody s.marks f.body) said (record { said = refl; shallow = h.shallow });
  function_is = same_function f ∙ ap (λ (s : AllParts). function_of f.name s f.body) said;
}

-- what is said of a stage is the stage, and what is said of sizes the sizes
stage_said : (stage : Option ShaderStage) (early_depth_test : Option EarlyDepthTest) → unwrap_or (said_stage stage early_depth_test) no_stage ≡ record { stage = stage; early_depth_test = early_depth_test }
stage_said None None = refl
stage_said _ _ = refl

stage_listed : (e : EntryPoint) → record { stage = e.stage; early_depth_test = e.early_depth_test } ≡ stage_in (entry_parts_of e)
stage_listed e = sym (stage_said e.stage e.early_depth_test) ∙ ap (λ s. unwrap_or s no_stage) (sym (first_listed (said_stage e.stage e.early_depth_test)))

size_said : (sizes : List ℕ) → unwrap_or (said_size sizes) no_workgroup ≡ sizes
size_said (zero ∷ zero ∷ zero ∷ []) = refl
size_said _ = refl

-- so is an entry point
entry_point_is : (e : EntryPoint) → IsSayableEntryPoint e → IsEntryPointOf (e.name, entry_parts_in e) e
entry_point_is e h = let said = sym (entry_point_said e) in record {
  consistent = subst ArePartsConsistent said (listed_once e.function (said_stage e.stage e.early_depth_test) (said_size e.workgroup_size) e.workgroup_size_overrides e.task_payload e.mesh_info h.sayable);
  body = subst (λ (s : AllParts). IsBody s.marks e.function.body) said (record { said = refl; shallow = h.sayable.shallow });
  entry_point_is = (λ j. record e {
    stage = ap (λ (s : EntryStage). s.stage) (stage_listed e) j;
    early_depth_test = ap (λ (s : EntryStage). s.early_depth_test) (stage_listed e) j;
    workgroup_size = (sym (size_said e.workgroup_size) ∙ ap (λ s. unwrap_or s no_workgroup) (sym (first_listed (said_size e.workgroup_size)))) j;
    workgroup_size_overrides = sym (first_listed e.workgroup_size_overrides) j;
    function = (same_function e.function ∙ ap (λ n. function_of n (parts_of e.function) e.function.body) h.nameless) j;
    task_payload = sym (first_listed e.task_payload) j;
    mesh_info = sym (first_listed e.mesh_info) j;
  }) ∙ ap (λ (s : AllParts). entry_point_of e.name s e.function.body) said;
}

functions_are : (fs : List Function) → AllByRecursion IsSayable fs → AllZip IsFunctionOf (map (λ f. (f.name, parts_in f)) fs) fs
functions_are [] h = tt
functions_are (f ∷ fs) h = (function_is f h.0, functions_are fs h.1)

entry_points_are : (es : List EntryPoint) → AllByRecursion IsSayableEntryPoint es → AllZip IsEntryPointOf (map (λ e. (e.name, entry_parts_in e)) es) es
entry_points_are [] h = tt
entry_points_are (e ∷ es) h = (entry_point_is e h.0, entry_points_are es h.1)

-- the items of a module that words can say are consistent
consistent : (m : Module) → CanBeSaid m → AreConsistent (said_of m)
consistent m h = search (rules, few_listed)

-- a module is what its items say
same_module : (m : Module) → HaveNoTexts m.doc_comments → m ≡ module_of (said_of m) m.functions m.entry_points
same_module m h = λ j. record m {
  diagnostic_filter_leaf = sym (first_listed m.diagnostic_filter_leaf) j;
  doc_comments = record m.doc_comments { «module» = h.on_module j };
}

-- the items of a module that words can say, say it alone
pub items_say : (m : Module) → CanBeSaid m → Say (items_in m) (module_alone m)
items_say m h =
    let said = sym (module_said m h.comments) in
    let parts = sym (module_sections m) in
    let functions = sym (only_functions m.functions m.entry_points) in
    let entry_points = sym (only_entry_points m.functions m.entry_points) in record {
      consistent = subst AreConsistent said (consistent m h);
      room_for_functions = subst (λ (s : Sections). length (functions_in s.1) ≤ largest_u32) parts (subst (λ all. length all ≤ largest_u32) functions (subst (λ n. n ≤ largest_u32) (sym (length-map m.functions _)) h.room_for_functions));
      no_part_before = ap (λ (s : Sections). s.0) (module_sections m);
      functions = subst (λ (s : Sections). AllZip IsFunctionOf (functions_in s.1) m.functions) parts (subst (λ all. AllZip IsFunctionOf all m.functions) functions (functions_are m.functions h.functions));
      entry_points = subst (λ (s : Sections). AllZip IsEntryPointOf (entry_points_in s.1) m.entry_points) parts (subst (λ all. AllZip IsEntryPointOf all m.entry_points) entry_points (entry_points_are m.entry_points h.entry_points));
      contents_are = ap module_alone (same_module m h.comments) ∙ ap (λ (s : AllSaid). record {
        «module» = module_of s m.functions m.entry_points;
        flags = first_of s.flags;
        capabilities = first_of s.capabilities;
        resolved = unwrap_or (first_of s.resolved) false;
      }) said;
    }

-- an item is read of its words, whatever follows
item_first : (x : Item) (rest : List ℕ) → Can (written_item x).1 → first_item (item_words x ++ rest) ≡ Some (x, rest)
item_first x rest h =
    let r = item_read x h in
    let o = (written_item x).0 in
    let ws = words (written_item x).1 in
    let n = length (written_item x).1 in
    let small : o < 256 = r.0 in
    let long : length ws ≡ n = length-map (written_item x).1 _ in
    let count : (n * 256 + o) / 256 ≡ length ws = omega (arith, small, long) in
    let opcode : (n * 256 + o) % 256 ≡ o = omega (arith, small) in
    let all = length-append ws rest in
    item_is (n * 256 + o) (ws ++ rest) x (omega (arith, count, all)) ((λ j. item_of (opcode j) ((ap (λ k. take k (ws ++ rest)) count ∙ take-append_seam ws rest) j)) ∙ r.1)
    ∙ ap (λ (rest : List ℕ). Some (x, rest)) (ap (λ k. drop k (ws ++ rest)) count ∙ drop-append_seam ws rest)

-- items are read of their words
all_items : (xs : List Item) → AllByRecursion (λ x. Can (written_item x).1) xs → read_all first_item (flat_map item_words xs) ≡ Some xs
all_items [] h = refl
all_items (x ∷ xs) h =
    all_step first_item item_shortens (item_words x ++ flat_map item_words xs) x (flat_map item_words xs) (item_first x (flat_map item_words xs) h.0) ∙ ap (onto x) (all_items xs h.1)

no_header : (xs : List Item) → AllByRecursion (λ x. Can (written_item x).1) xs → have_header (flat_map item_words xs) ≡ false
no_header [] h = refl
no_header (x ∷ xs) h = item_is_no_header (item_words x ++ flat_map item_words xs) x (flat_map item_words xs) (item_first x (flat_map item_words xs) h.0)

-- so a module is read of its words
pub words_say : (m : Module) → CanBeSaid m → IsWords (words_of m) (module_alone m)
words_say m h = (items_in m, ap (read_all first_item) (without (words_of m) (no_header (items_in m) h.operands)) ∙ all_items (items_in m) h.operands, items_say m h)

-- what holds of all pairs with the same partner
both_zip : {S A : Type 0} (P : S → A → Type 0) (Q : A → A → Type 0) → ((s : S) (a b : A) → P s a → P s b → Q a b) → (ss : List S) (xs ys : List A) → AllZip P ss xs → AllZip P ss ys → AllZip Q xs ys
both_zip P Q f [] [] [] h k = tt
both_zip P Q f (s ∷ ss) (a ∷ xs) (b ∷ ys) h k = (f s a b h.0 k.0, both_zip P Q f ss xs ys h.1 k.1)
both_zip P Q f [] (a ∷ xs) ys h k = absurd h
both_zip P Q f [] [] (b ∷ ys) h k = absurd k
both_zip P Q f (s ∷ ss) [] ys h k = absurd h
both_zip P Q f (s ∷ ss) (a ∷ xs) [] h k = absurd k

one_function : (s : Option (List ℕ) × List Part) (f g : Function) → IsFunctionOf s f → IsFunctionOf s g → IsSameFunction f g
one_function s f g h k = record {
  but_body = h.function_is ∙ ap (λ (g : Function). record g { body = f.body }) (sym k.function_is);
  body = sym h.body.said ∙ k.body.said;
}

one_entry_point : (s : List ℕ × List Part) (e g : EntryPoint) → IsEntryPointOf s e → IsEntryPointOf s g → IsSameEntryPoint e g
one_entry_point s e g h k = let other = λ (x : EntryPoint). record x { function = e.function } in record {
  but_function = ap other h.entry_point_is ∙ ap other (sym k.entry_point_is);
  function = record {
    but_body = ap (λ (e : EntryPoint). e.function) h.entry_point_is ∙ ap (λ (g : EntryPoint). record g.function { body = e.function.body }) (sym k.entry_point_is);
    body = sym h.body.said ∙ k.body.said;
  };
}

-- words say one module at most, up to the room of vectors
pub words_say_once : (words : List ℕ) (a b : Contents) → IsWords words a → IsWords words b → AreSame a b
words_say_once words a b h k = go (subst (λ items. Say items b) (same_Some _ _ (sym k.1 ∙ h.1)) k.2)
  where
    go : Say h.0 b → AreSame a b
    go k = record {
      but_bodies = h.2.contents_are ∙ ap (λ (c : Contents). record c { «module» = record c.«module» { functions = a.«module».functions; entry_points = a.«module».entry_points } }) (sym k.contents_are);
      functions = both_zip IsFunctionOf IsSameFunction one_function _ _ _ h.2.functions k.functions;
      entry_points = both_zip IsEntryPointOf IsSameEntryPoint one_entry_point _ _ _ h.2.entry_points k.entry_points;
    }
