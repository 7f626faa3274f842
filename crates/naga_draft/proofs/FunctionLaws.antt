-- A function or entry point, and one part more.
use Rattle.std.proofs.Common.{◌≡◌, ℕ, ◌<◌, ◌≤◌, List, [], ◌∷◌, ◌++◌, Option, None, Some, length, refl, sym, ap, ◌∙◌, subst, arith, append_assoc}
use Rattle.std.proofs.lemmas.Option.{same_Some}
use Rattle.naga_arena.specs.Numbers.{largest_u32}
use Rattle.naga_ir.specs.declared.expression.Expression.{Expression as ExpressionType}
use Rattle.naga_ir.specs.declared.ir.Function.{Function}
use Rattle.naga_ir.specs.declared.ir.FunctionArgument.{FunctionArgument}
use Rattle.naga_ir.specs.declared.ir.FunctionResult.{FunctionResult}
use Rattle.naga_ir.specs.declared.ir.LocalVariable.{LocalVariable as LocalVariableType}
use Rattle.naga_ir.specs.declared.ir.MeshStageInfo.{MeshStageInfo}
use Rattle.naga_draft.specs.Items.{AllParts, Head, all_parts, entry_point, function, said_by_part}
use Rattle.naga_draft.specs.Modules.{ArePartsConsistent, HasNoEntryParts, first_of}
use Rattle.naga_ir.specs.declared.statement.Block.{Block}
use Rattle.naga_draft.specs.declared.blocks.OpenBlocks.{OpenBlocks}
use Rattle.naga_draft.specs.declared.functions.EntryParts.{EntryParts}
use Rattle.naga_draft.specs.declared.functions.OpenFunction.{OpenFunction}
use Rattle.naga_draft.specs.declared.item.EntryStage.{EntryStage}
use Rattle.naga_draft.specs.declared.item.Mark.{Mark as MarkType}
use Rattle.naga_draft.specs.declared.item.Part.{Part}
use Rattle.naga_draft.specs.declared.item.Part.TheVariants.{Argument, LocalVariable, Result, NamedExpression, FilterLeaf, WorkgroupSizes, Stage, WorkgroupSize, TaskPayload, MeshOutput, Expression, Mark}
use Rattle.naga_draft.specs.Bodies.{IsBody}
use Rattle.naga_draft.specs.BodyParts.{CanBeginBody}
use Rattle.naga_draft.specs.OpenBlocks.{AreRead}
use Rattle.naga_draft.specs.OpenFunctions.{AreParts, HasEntryParts, HasParts, IsSection, entry_parts_of}
use Rattle.naga_draft.proofs.SaidLaws.{alone_after, first_after, fits_after, parts_more, pick_between, pick_many, pick_some, some_first, with_part}

-- parts are consistent if what they say is
are_consistent : (s : AllParts) → length s.results ≤ 1 → length s.filter_leaves ≤ 1 → length s.workgroup_sizes ≤ 1
    → length s.stages ≤ 1 → length s.workgroup_size ≤ 1 → length s.task_payloads ≤ 1 → length s.mesh_outputs ≤ 1 → length s.local_variables ≤ largest_u32 → length s.expressions ≤ largest_u32 → ArePartsConsistent s
are_consistent s results filters sizes stages size payloads meshes variables expressions = record {
  results = results;
  filter_leaves = filters;
  workgroup_sizes = sizes;
  stages = stages;
  workgroup_size = size;
  task_payloads = payloads;
  mesh_outputs = meshes;
  room_for_local_variables = variables;
  room_for_expressions = expressions;
}

-- what was begun has what its parts and one more say, if it has what they say together
more : (head : Head) (parts : List Part) (p : Part) (new : OpenFunction) → HasParts head (with_part (all_parts parts) (said_by_part p)) new → AreParts head (parts ++ p ∷ []) new
more head parts p new h = subst (λ s. HasParts head s new) (sym (parts_more parts p)) h

-- a function has what entry points have, or nothing, by the head, whatever else parts say
entry_same : (head : Head) (s t : AllParts) (entry : Option EntryParts) → s.workgroup_sizes ≡ t.workgroup_sizes → s.stages ≡ t.stages → s.workgroup_size ≡ t.workgroup_size → s.task_payloads ≡ t.task_payloads → s.mesh_outputs ≡ t.mesh_outputs → HasEntryParts head s entry → HasEntryParts head t entry
entry_same (function name) s t entry w g z p m h = (h.0, record { workgroup_sizes = sym w ∙ h.1.workgroup_sizes; stages = sym g ∙ h.1.stages; workgroup_size = sym z ∙ h.1.workgroup_size; task_payloads = sym p ∙ h.1.task_payloads; mesh_outputs = sym m ∙ h.1.mesh_outputs })
entry_same (entry_point name) s t entry w g z p m h = h ∙ ap Some (λ j. record { name = name; stage = first_of (g j); workgroup_size = first_of (z j); workgroup_sizes = first_of (w j); payload = first_of (p j); mesh = first_of (m j) })

-- a section of parts is consistent
section_consistent : (head : Head) (parts : List Part) → IsSection head parts → ArePartsConsistent (all_parts parts)
section_consistent (function name) parts is = is.1.consistent
section_consistent (entry_point name) parts is = is.1.consistent

-- a section has a body
pub section_body : (head : Head) (parts : List Part) → IsSection head parts → (b : Block) × IsBody (all_parts parts).marks b
section_body (function name) parts is = (is.0.body, is.1.body)
section_body (entry_point name) parts is = (is.0.function.body, is.1.body)

-- the sizes of a workgroup come to an entry point that has none
has_sizes : (head : Head) (s : AllParts) (e : EntryParts) (a : List (Option ℕ)) (value : Option (List (Option ℕ))) → HasEntryParts head s (Some e) → e.workgroup_sizes ≡ None → value ≡ Some a
    → HasEntryParts head (with_part s (said_by_part (WorkgroupSizes a))) (Some (record e { workgroup_sizes = value })) × (length (s.workgroup_sizes ++ a ∷ []) ≤ 1)
has_sizes (function name) s e a value h none v = let is = h.0 in cc
has_sizes (entry_point name) s e a value h none v =
    let is : e ≡ entry_parts_of name s = same_Some _ _ h in
    let empty : first_of s.workgroup_sizes ≡ None = sym (ap (λ (e : EntryParts). e.workgroup_sizes) is) ∙ none in (
      ap Some (ap (λ (o : Option (List (Option ℕ))). record e { workgroup_sizes = o }) (v ∙ sym (first_after s.workgroup_sizes a empty))
          ∙ ap (λ (e : EntryParts). record e { workgroup_sizes = first_of (s.workgroup_sizes ++ a ∷ []) }) is),
      alone_after s.workgroup_sizes a empty,
    )

-- a stage comes to an entry point that has none
has_stage : (head : Head) (s : AllParts) (e : EntryParts) (a : EntryStage) (value : Option (EntryStage)) → HasEntryParts head s (Some e) → e.stage ≡ None → value ≡ Some a
    → HasEntryParts head (with_part s (said_by_part (Stage a))) (Some (record e { stage = value })) × (length (s.stages ++ a ∷ []) ≤ 1)
has_stage (function name) s e a value h none v = let is = h.0 in cc
has_stage (entry_point name) s e a value h none v =
    let is : e ≡ entry_parts_of name s = same_Some _ _ h in
    let empty : first_of s.stages ≡ None = sym (ap (λ (e : EntryParts). e.stage) is) ∙ none in (
      ap Some (ap (λ (o : Option (EntryStage)). record e { stage = o }) (v ∙ sym (first_after s.stages a empty))
          ∙ ap (λ (e : EntryParts). record e { stage = first_of (s.stages ++ a ∷ []) }) is),
      alone_after s.stages a empty,
    )

-- the size of a workgroup comes to an entry point that has none
has_size : (head : Head) (s : AllParts) (e : EntryParts) (a : List ℕ) (value : Option (List ℕ)) → HasEntryParts head s (Some e) → e.workgroup_size ≡ None → value ≡ Some a
    → HasEntryParts head (with_part s (said_by_part (WorkgroupSize a))) (Some (record e { workgroup_size = value })) × (length (s.workgroup_size ++ a ∷ []) ≤ 1)
has_size (function name) s e a value h none v = let is = h.0 in cc
has_size (entry_point name) s e a value h none v =
    let is : e ≡ entry_parts_of name s = same_Some _ _ h in
    let empty : first_of s.workgroup_size ≡ None = sym (ap (λ (e : EntryParts). e.workgroup_size) is) ∙ none in (
      ap Some (ap (λ (o : Option (List ℕ)). record e { workgroup_size = o }) (v ∙ sym (first_after s.workgroup_size a empty))
          ∙ ap (λ (e : EntryParts). record e { workgroup_size = first_of (s.workgroup_size ++ a ∷ []) }) is),
      alone_after s.workgroup_size a empty,
    )

-- the task payload comes to an entry point that has none
has_payload : (head : Head) (s : AllParts) (e : EntryParts) (a : ℕ) (value : Option ℕ) → HasEntryParts head s (Some e) → e.payload ≡ None → value ≡ Some a
    → HasEntryParts head (with_part s (said_by_part (TaskPayload a))) (Some (record e { payload = value })) × (length (s.task_payloads ++ a ∷ []) ≤ 1)
has_payload (function name) s e a value h none v = let is = h.0 in cc
has_payload (entry_point name) s e a value h none v =
    let is : e ≡ entry_parts_of name s = same_Some _ _ h in
    let empty : first_of s.task_payloads ≡ None = sym (ap (λ (e : EntryParts). e.payload) is) ∙ none in (
      ap Some (ap (λ (o : Option ℕ). record e { payload = o }) (v ∙ sym (first_after s.task_payloads a empty))
          ∙ ap (λ (e : EntryParts). record e { payload = first_of (s.task_payloads ++ a ∷ []) }) is),
      alone_after s.task_payloads a empty,
    )

-- the output of a mesh shader comes to an entry point that has none
has_mesh : (head : Head) (s : AllParts) (e : EntryParts) (a : MeshStageInfo) (value : Option MeshStageInfo) → HasEntryParts head s (Some e) → e.mesh ≡ None → value ≡ Some a
    → HasEntryParts head (with_part s (said_by_part (MeshOutput a))) (Some (record e { mesh = value })) × (length (s.mesh_outputs ++ a ∷ []) ≤ 1)
has_mesh (function name) s e a value h none v = let is = h.0 in cc
has_mesh (entry_point name) s e a value h none v =
    let is : e ≡ entry_parts_of name s = same_Some _ _ h in
    let empty : first_of s.mesh_outputs ≡ None = sym (ap (λ (e : EntryParts). e.mesh) is) ∙ none in (
      ap Some (ap (λ (o : Option MeshStageInfo). record e { mesh = o }) (v ∙ sym (first_after s.mesh_outputs a empty))
          ∙ ap (λ (e : EntryParts). record e { mesh = first_of (s.mesh_outputs ++ a ∷ []) }) is),
      alone_after s.mesh_outputs a empty,
    )

-- what an entry point has is what its parts say
entry_has : (head : Head) (s : AllParts) (e : EntryParts) → HasEntryParts head s (Some e) → (e.workgroup_sizes ≡ first_of s.workgroup_sizes) × (e.payload ≡ first_of s.task_payloads) × (e.mesh ≡ first_of s.mesh_outputs) × (e.stage ≡ first_of s.stages) × (e.workgroup_size ≡ first_of s.workgroup_size)
entry_has (function name) s e h = let is = h.0 in cc
entry_has (entry_point name) s e h =
    let is : e ≡ entry_parts_of name s = same_Some _ _ h in
    (ap (λ (e : EntryParts). e.workgroup_sizes) is, ap (λ (e : EntryParts). e.payload) is, ap (λ (e : EntryParts). e.mesh) is, ap (λ (e : EntryParts). e.stage) is, ap (λ (e : EntryParts). e.workgroup_size) is)

-- a section with nothing of an entry point has no parts of one
no_entry_parts : (head : Head) (s : AllParts) (parts : List Part) → HasEntryParts head s None → IsSection head parts → HasNoEntryParts (all_parts parts)
no_entry_parts (function name) s parts h is = is.1.no_entry_parts
no_entry_parts (entry_point name) s parts h is = cc

module _ (head : Head) (parts : List Part) (old : OpenFunction) (h : AreParts head parts old) where
  abbrev s : AllParts
  s = all_parts parts

  abbrev c : ArePartsConsistent s
  c = h.consistent

  pub argument_added : (a : FunctionArgument) (items : List FunctionArgument) → items ≡ old.function.arguments ++ a ∷ []
      → AreParts head (parts ++ Argument a ∷ []) (record old { function = record (old.function) { arguments = items } })
  argument_added a items e = more head parts (Argument a) _ (record {
    consistent = are_consistent _ c.results c.filter_leaves c.workgroup_sizes c.stages c.workgroup_size c.task_payloads c.mesh_outputs c.room_for_local_variables c.room_for_expressions;
    function_is = ap (λ (xs : List FunctionArgument). record (old.function) { arguments = xs }) e ∙ ap (λ (f : Function). record f { arguments = f.arguments ++ a ∷ []; body = old.function.body }) h.function_is;
    blocks = h.blocks;
    entry = entry_same head s _ old.entry refl refl refl refl refl h.entry;
  })

  pub variable_added : (a : LocalVariableType) (items : List LocalVariableType) → items ≡ old.function.local_variables ++ a ∷ [] → length old.function.local_variables < largest_u32
      → AreParts head (parts ++ LocalVariable a ∷ []) (record old { function = record (old.function) { local_variables = items } })
  variable_added a items e room = more head parts (LocalVariable a) _ (record {
    consistent = are_consistent _ c.results c.filter_leaves c.workgroup_sizes c.stages c.workgroup_size c.task_payloads c.mesh_outputs
        (fits_after s.local_variables a largest_u32 (let same = ap (λ (f : Function). length f.local_variables) h.function_is in omega (arith, room, same))) c.room_for_expressions;
    function_is = ap (λ (xs : List LocalVariableType). record (old.function) { local_variables = xs }) e ∙ ap (λ (f : Function). record f { local_variables = f.local_variables ++ a ∷ []; body = old.function.body }) h.function_is;
    blocks = h.blocks;
    entry = entry_same head s _ old.entry refl refl refl refl refl h.entry;
  })

  pub expression_added : (a : ExpressionType) (items : List ExpressionType) → items ≡ old.function.expressions ++ a ∷ [] → length old.function.expressions < largest_u32
      → AreParts head (parts ++ Expression a ∷ []) (record old { function = record (old.function) { expressions = items } })
  expression_added a items e room = more head parts (Expression a) _ (record {
    consistent = are_consistent _ c.results c.filter_leaves c.workgroup_sizes c.stages c.workgroup_size c.task_payloads c.mesh_outputs c.room_for_local_variables
        (fits_after s.expressions a largest_u32 (let same = ap (λ (f : Function). length f.expressions) h.function_is in omega (arith, room, same)));
    function_is = ap (λ (xs : List ExpressionType). record (old.function) { expressions = xs }) e ∙ ap (λ (f : Function). record f { expressions = f.expressions ++ a ∷ []; body = old.function.body }) h.function_is;
    blocks = h.blocks;
    entry = entry_same head s _ old.entry refl refl refl refl refl h.entry;
  })

  pub name_added : (named : ℕ) (name : List ℕ) (items : List (ℕ × List ℕ)) → items ≡ old.function.named_expressions ++ (named, name) ∷ []
      → AreParts head (parts ++ NamedExpression named name ∷ []) (record old { function = record (old.function) { named_expressions = items } })
  name_added named name items e = more head parts (NamedExpression named name) _ (record {
    consistent = are_consistent _ c.results c.filter_leaves c.workgroup_sizes c.stages c.workgroup_size c.task_payloads c.mesh_outputs c.room_for_local_variables c.room_for_expressions;
    function_is = ap (λ (xs : List (ℕ × List ℕ)). record (old.function) { named_expressions = xs }) e ∙ ap (λ (f : Function). record f { named_expressions = f.named_expressions ++ (named, name) ∷ []; body = old.function.body }) h.function_is;
    blocks = h.blocks;
    entry = entry_same head s _ old.entry refl refl refl refl refl h.entry;
  })

  pub result_added : (a : FunctionResult) (value : Option FunctionResult) → old.function.result ≡ None → value ≡ Some a
      → AreParts head (parts ++ Result a ∷ []) (record old { function = record (old.function) { result = value } })
  result_added a value none e =
      let empty : first_of s.results ≡ None = sym (ap (λ (f : Function). f.result) h.function_is) ∙ none in
      more head parts (Result a) _ (record {
        consistent = are_consistent _ (alone_after s.results a empty) c.filter_leaves c.workgroup_sizes c.stages c.workgroup_size c.task_payloads c.mesh_outputs c.room_for_local_variables c.room_for_expressions;
        function_is = ap (λ (o : Option FunctionResult). record (old.function) { result = o }) (e ∙ sym (first_after s.results a empty))
            ∙ ap (λ (f : Function). record f { result = first_of (s.results ++ a ∷ []); body = old.function.body }) h.function_is;
        blocks = h.blocks;
        entry = entry_same head s _ old.entry refl refl refl refl refl h.entry;
      })

  pub filter_added : (a : ℕ) (value : Option ℕ) → old.function.diagnostic_filter_leaf ≡ None → value ≡ Some a
      → AreParts head (parts ++ FilterLeaf a ∷ []) (record old { function = record (old.function) { diagnostic_filter_leaf = value } })
  filter_added a value none e =
      let empty : first_of s.filter_leaves ≡ None = sym (ap (λ (f : Function). f.diagnostic_filter_leaf) h.function_is) ∙ none in
      more head parts (FilterLeaf a) _ (record {
        consistent = are_consistent _ c.results (alone_after s.filter_leaves a empty) c.workgroup_sizes c.stages c.workgroup_size c.task_payloads c.mesh_outputs c.room_for_local_variables c.room_for_expressions;
        function_is = ap (λ (o : Option ℕ). record (old.function) { diagnostic_filter_leaf = o }) (e ∙ sym (first_after s.filter_leaves a empty))
            ∙ ap (λ (f : Function). record f { diagnostic_filter_leaf = first_of (s.filter_leaves ++ a ∷ []); body = old.function.body }) h.function_is;
        blocks = h.blocks;
        entry = entry_same head s _ old.entry refl refl refl refl refl h.entry;
      })

  pub sizes_added : (e : EntryParts) (a : List (Option ℕ)) (value : Option (List (Option ℕ))) → old.entry ≡ Some e → e.workgroup_sizes ≡ None → value ≡ Some a
      → AreParts head (parts ++ WorkgroupSizes a ∷ []) (record old { entry = Some (record e { workgroup_sizes = value }) })
  sizes_added e a value is none v =
      let has = has_sizes head s e a value (subst (HasEntryParts head s) is h.entry) none v in
      more head parts (WorkgroupSizes a) _ (record {
        consistent = are_consistent _ c.results c.filter_leaves has.1 c.stages c.workgroup_size c.task_payloads c.mesh_outputs c.room_for_local_variables c.room_for_expressions;
        function_is = h.function_is;
        blocks = h.blocks;
        entry = has.0;
      })

  pub payload_added : (e : EntryParts) (a : ℕ) (value : Option ℕ) → old.entry ≡ Some e → e.payload ≡ None → value ≡ Some a
      → AreParts head (parts ++ TaskPayload a ∷ []) (record old { entry = Some (record e { payload = value }) })
  payload_added e a value is none v =
      let has = has_payload head s e a value (subst (HasEntryParts head s) is h.entry) none v in
      more head parts (TaskPayload a) _ (record {
        consistent = are_consistent _ c.results c.filter_leaves c.workgroup_sizes c.stages c.workgroup_size has.1 c.mesh_outputs c.room_for_local_variables c.room_for_expressions;
        function_is = h.function_is;
        blocks = h.blocks;
        entry = has.0;
      })

  pub mesh_added : (e : EntryParts) (a : MeshStageInfo) (value : Option MeshStageInfo) → old.entry ≡ Some e → e.mesh ≡ None → value ≡ Some a
      → AreParts head (parts ++ MeshOutput a ∷ []) (record old { entry = Some (record e { mesh = value }) })
  mesh_added e a value is none v =
      let has = has_mesh head s e a value (subst (HasEntryParts head s) is h.entry) none v in
      more head parts (MeshOutput a) _ (record {
        consistent = are_consistent _ c.results c.filter_leaves c.workgroup_sizes c.stages c.workgroup_size c.task_payloads has.1 c.room_for_local_variables c.room_for_expressions;
        function_is = h.function_is;
        blocks = h.blocks;
        entry = has.0;
      })

  pub stage_added : (e : EntryParts) (a : EntryStage) (value : Option EntryStage) → old.entry ≡ Some e → e.stage ≡ None → value ≡ Some a
      → AreParts head (parts ++ Stage a ∷ []) (record old { entry = Some (record e { stage = value }) })
  stage_added e a value is none v =
      let has = has_stage head s e a value (subst (HasEntryParts head s) is h.entry) none v in
      more head parts (Stage a) _ (record {
        consistent = are_consistent _ c.results c.filter_leaves c.workgroup_sizes has.1 c.workgroup_size c.task_payloads c.mesh_outputs c.room_for_local_variables c.room_for_expressions;
        function_is = h.function_is;
        blocks = h.blocks;
        entry = has.0;
      })

  pub size_added : (e : EntryParts) (a : List ℕ) (value : Option (List ℕ)) → old.entry ≡ Some e → e.workgroup_size ≡ None → value ≡ Some a
      → AreParts head (parts ++ WorkgroupSize a ∷ []) (record old { entry = Some (record e { workgroup_size = value }) })
  size_added e a value is none v =
      let has = has_size head s e a value (subst (HasEntryParts head s) is h.entry) none v in
      more head parts (WorkgroupSize a) _ (record {
        consistent = are_consistent _ c.results c.filter_leaves c.workgroup_sizes c.stages has.1 c.task_payloads c.mesh_outputs c.room_for_local_variables c.room_for_expressions;
        function_is = h.function_is;
        blocks = h.blocks;
        entry = has.0;
      })

  pub mark_added : (mark : MarkType) (blocks : OpenBlocks) → AreRead (s.marks ++ mark ∷ []) blocks → AreParts head (parts ++ Mark mark ∷ []) (record old { blocks = blocks })
  mark_added mark blocks read = more head parts (Mark mark) _ (record {
    consistent = are_consistent _ c.results c.filter_leaves c.workgroup_sizes c.stages c.workgroup_size c.task_payloads c.mesh_outputs c.room_for_local_variables c.room_for_expressions;
    function_is = h.function_is;
    blocks = read;
    entry = entry_same head s _ old.entry refl refl refl refl refl h.entry;
  })

  pub variable_refused : (a : LocalVariableType) → largest_u32 ≤ length old.function.local_variables → (later : List Part) → ¬ (IsSection head (parts ++ LocalVariable a ∷ later))
  variable_refused a full later is =
      pick_many (λ p. (said_by_part p).local_variable) largest_u32 parts (LocalVariable a) later a refl
      (let same = ap (λ (f : Function). length f.local_variables) h.function_is in omega (arith, full, same)) (section_consistent head _ is).room_for_local_variables

  pub expression_refused : (a : ExpressionType) → largest_u32 ≤ length old.function.expressions → (later : List Part) → ¬ (IsSection head (parts ++ Expression a ∷ later))
  expression_refused a full later is =
      pick_many (λ p. (said_by_part p).expression) largest_u32 parts (Expression a) later a refl
      (let same = ap (λ (f : Function). length f.expressions) h.function_is in omega (arith, full, same)) (section_consistent head _ is).room_for_expressions

  pub result_refused : (a : FunctionResult) → ¬ (old.function.result ≡ None) → (later : List Part) → ¬ (IsSection head (parts ++ Result a ∷ later))
  result_refused a set later is =
      pick_many (λ p. (said_by_part p).result) 1 parts (Result a) later a refl
      (some_first s.results (λ none. set (ap (λ (f : Function). f.result) h.function_is ∙ none))) (section_consistent head _ is).results

  pub filter_refused : (a : ℕ) → ¬ (old.function.diagnostic_filter_leaf ≡ None) → (later : List Part) → ¬ (IsSection head (parts ++ FilterLeaf a ∷ later))
  filter_refused a set later is =
      pick_many (λ p. (said_by_part p).filter_leaf) 1 parts (FilterLeaf a) later a refl
      (some_first s.filter_leaves (λ none. set (ap (λ (f : Function). f.diagnostic_filter_leaf) h.function_is ∙ none))) (section_consistent head _ is).filter_leaves

  pub sizes_refused : (e : EntryParts) (a : List (Option ℕ)) → old.entry ≡ Some e → ¬ (e.workgroup_sizes ≡ None) → (later : List Part) → ¬ (IsSection head (parts ++ WorkgroupSizes a ∷ later))
  sizes_refused e a at set later is =
      let has = entry_has head s e (subst (HasEntryParts head s) at h.entry) in
      pick_many (λ p. (said_by_part p).workgroup_sizes) 1 parts (WorkgroupSizes a) later a refl
      (some_first s.workgroup_sizes (λ none. set (has.0 ∙ none))) (section_consistent head _ is).workgroup_sizes

  pub payload_refused : (e : EntryParts) (a : ℕ) → old.entry ≡ Some e → ¬ (e.payload ≡ None) → (later : List Part) → ¬ (IsSection head (parts ++ TaskPayload a ∷ later))
  payload_refused e a at set later is =
      let has = entry_has head s e (subst (HasEntryParts head s) at h.entry) in
      pick_many (λ p. (said_by_part p).task_payload) 1 parts (TaskPayload a) later a refl
      (some_first s.task_payloads (λ none. set (has.1 ∙ none))) (section_consistent head _ is).task_payloads

  pub mesh_refused : (e : EntryParts) (a : MeshStageInfo) → old.entry ≡ Some e → ¬ (e.mesh ≡ None) → (later : List Part) → ¬ (IsSection head (parts ++ MeshOutput a ∷ later))
  mesh_refused e a at set later is =
      let has = entry_has head s e (subst (HasEntryParts head s) at h.entry) in
      pick_many (λ p. (said_by_part p).mesh_output) 1 parts (MeshOutput a) later a refl
      (some_first s.mesh_outputs (λ none. set (has.2 ∙ none))) (section_consistent head _ is).mesh_outputs

  pub stage_refused : (e : EntryParts) (a : EntryStage) → old.entry ≡ Some e → ¬ (e.stage ≡ None) → (later : List Part) → ¬ (IsSection head (parts ++ Stage a ∷ later))
  stage_refused e a at set later is =
      let has = entry_has head s e (subst (HasEntryParts head s) at h.entry) in
      pick_many (λ p. (said_by_part p).stage) 1 parts (Stage a) later a refl
      (some_first s.stages (λ none. set (has.3 ∙ none))) (section_consistent head _ is).stages

  pub size_refused : (e : EntryParts) (a : List ℕ) → old.entry ≡ Some e → ¬ (e.workgroup_size ≡ None) → (later : List Part) → ¬ (IsSection head (parts ++ WorkgroupSize a ∷ later))
  size_refused e a at set later is =
      let has = entry_has head s e (subst (HasEntryParts head s) at h.entry) in
      pick_many (λ p. (said_by_part p).workgroup_size) 1 parts (WorkgroupSize a) later a refl
      (some_first s.workgroup_size (λ none. set (has.4 ∙ none))) (section_consistent head _ is).workgroup_size

  pub sizes_misplaced : (a : List (Option ℕ)) → old.entry ≡ None → (later : List Part) → ¬ (IsSection head (parts ++ WorkgroupSizes a ∷ later))
  sizes_misplaced a none later is =
      let without = no_entry_parts head s _ (subst (HasEntryParts head s) none h.entry) is in
      pick_some (λ p. (said_by_part p).workgroup_sizes) parts (WorkgroupSizes a) later a refl without.workgroup_sizes

  pub payload_misplaced : (a : ℕ) → old.entry ≡ None → (later : List Part) → ¬ (IsSection head (parts ++ TaskPayload a ∷ later))
  payload_misplaced a none later is =
      let without = no_entry_parts head s _ (subst (HasEntryParts head s) none h.entry) is in
      pick_some (λ p. (said_by_part p).task_payload) parts (TaskPayload a) later a refl without.task_payloads

  pub mesh_misplaced : (a : MeshStageInfo) → old.entry ≡ None → (later : List Part) → ¬ (IsSection head (parts ++ MeshOutput a ∷ later))
  mesh_misplaced a none later is =
      let without = no_entry_parts head s _ (subst (HasEntryParts head s) none h.entry) is in
      pick_some (λ p. (said_by_part p).mesh_output) parts (MeshOutput a) later a refl without.mesh_outputs

  pub stage_misplaced : (a : EntryStage) → old.entry ≡ None → (later : List Part) → ¬ (IsSection head (parts ++ Stage a ∷ later))
  stage_misplaced a none later is =
      let without = no_entry_parts head s _ (subst (HasEntryParts head s) none h.entry) is in
      pick_some (λ p. (said_by_part p).stage) parts (Stage a) later a refl without.stages

  pub size_misplaced : (a : List ℕ) → old.entry ≡ None → (later : List Part) → ¬ (IsSection head (parts ++ WorkgroupSize a ∷ later))
  size_misplaced a none later is =
      let without = no_entry_parts head s _ (subst (HasEntryParts head s) none h.entry) is in
      pick_some (λ p. (said_by_part p).workgroup_size) parts (WorkgroupSize a) later a refl without.workgroup_size

  pub mark_refused : (mark : MarkType) → ¬ (CanBeginBody (s.marks ++ mark ∷ [])) → (later : List Part) → ¬ (IsSection head (parts ++ Mark mark ∷ later))
  mark_refused mark stuck later is =
      let body = section_body head _ is in
      let marks : (all_parts (parts ++ Mark mark ∷ later)).marks ≡ s.marks ++ mark ∷ (all_parts later).marks = pick_between (λ p. (said_by_part p).mark) parts (Mark mark) later mark refl in
      stuck ((all_parts later).marks, body.0, subst (λ ms. IsBody ms body.0) (marks ∙ sym (append_assoc s.marks (mark ∷ []) (all_parts later).marks)) body.1)

-- what was added is the part that it is
pub as_part : (head : Head) (parts : List Part) (p q : Part) (new : OpenFunction) → p ≡ q → AreParts head (parts ++ q ∷ []) new → AreParts head (parts ++ p ∷ []) new
as_part head parts p q new is h = subst (λ p. AreParts head (parts ++ p ∷ []) new) (sym is) h

-- what can't be added is the part that it is
pub not_part : (head : Head) (parts : List Part) (p q : Part) (later : List Part) → p ≡ q → ¬ (IsSection head (parts ++ q ∷ later)) → ¬ (IsSection head (parts ++ p ∷ later))
not_part head parts p q later is h = subst (λ p. ¬ (IsSection head (parts ++ p ∷ later))) (sym is) h

-- a function whose body is not one is no section
pub no_section : (head : Head) (parts : List Part) → ((b : Block) → ¬ (IsBody (all_parts parts).marks b)) → ¬ (IsSection head parts)
no_section head parts none is = let body = section_body head parts is in none body.0 body.1
