-- Which readers an opcode or a form has, and that no item that is read has blocks in it.
use Rattle.std.proofs.Common.{◌≡◌, ◌≢◌, ◌-◌, ◌<◌, ◌≤◌, ℕ, List, arith, refl, ◌==◌, Bool, true, false, [], ◌∷◌, Option, None, Some, cond, nat_lt, rules, subst}
use Rattle.std.proofs.lemmas.Bool.{le-ltb, lt-ltb, ne_eqb}
use Rattle.std.specs.Prelude.{option_map, ⊤}
use Rattle.naga_words.specs.Expressions.{early_forms, expression_of, late_forms}
use Rattle.naga_words.specs.Items.{entry_stage_of, function_result_of, item_of, mesh_output_of, named_item_of, named_part_of, part_of, plain_item_of, plain_part_of, workgroup_size_of, workgroup_sizes_of}
use Rattle.naga_words.specs.Reading.{read_by}
use Rattle.naga_words.specs.Statements.{mark_of, block_mark_of, call_of, fixed_statements, is_of_statement, statement_of}
use Rattle.std.proofs.lemmas.Option.{option_and_then_some, same_Some}
use Rattle.naga_ir.specs.declared.statement.Statement.{Statement}
use Rattle.naga_draft.specs.BodyParts.{HasNoBlocks, IsPlain}
use Rattle.naga_draft.specs.Drafts.{SaysNoBlocks}
use Rattle.naga_draft.specs.OpenFunctions.{SaysNoBlocks as PartSaysNoBlocks}
use Rattle.naga_draft.specs.declared.item.Item.{Item}
use Rattle.naga_draft.specs.declared.item.Mark.{Mark}
use Rattle.naga_draft.specs.declared.item.Part.{Part}
use Rattle.naga_words.specs.Operands.{nothing_of, only_handle_of}
use Rattle.naga_words.specs.Texts.{name_of, text_of}
use Rattle.naga_words.specs.Types.{type_of}
use Rattle.naga_draft.specs.declared.item.Item.TheVariants as item
use Rattle.naga_draft.specs.declared.item.Part.TheVariants as part
use Rattle.naga_ir.specs.declared.statement.Statement as view
use Rattle.naga_draft.specs.declared.item.Mark.TheVariants as mark
use Rattle.naga_words.specs.declared.opcodes.TheConstants as code

pub early_expression : (z : ℕ) (ws : List ℕ) → z ≢ 4 → z < 16 → expression_of z ws ≡ read_by early_forms z ws
early_expression z ws h k = rw (ne_eqb z 4 h, lt-ltb z 16 k) refl

pub late_expression : (z : ℕ) (ws : List ℕ) → 16 ≤ z → expression_of z ws ≡ read_by late_forms z ws
late_expression z ws h = rw (ne_eqb z 4 (λ e. omega (arith, e, h)), le-ltb z 16 h) refl

module _ (o : ℕ) (ws : List ℕ) where
  pub expression_part : 128 ≤ o → o < 192 → part_of o ws ≡ option_map part.Expression (expression_of (o - 128) ws)
  expression_part h k = rw (le-ltb o 42 (omega (arith, h)), ne_eqb o 43 (λ e. omega (arith, e, h)), le-ltb o 128 h, lt-ltb o 192 k) refl

  pub mark_part : 192 ≤ o → part_of o ws ≡ option_map part.Mark (mark_of o ws)
  mark_part h = rw (le-ltb o 42 (omega (arith, h)), ne_eqb o 43 (λ e. omega (arith, e, h)), le-ltb o 128 (omega (arith, h)), le-ltb o 192 h) refl

  pub plain_item : o < 16 → item_of o ws ≡ plain_item_of o ws
  plain_item h = rw (lt-ltb o 16 h) refl

  pub part_item : 37 ≤ o → o < 64 → o ≢ 50 → item_of o ws ≡ option_map item.Part (part_of o ws)
  part_item h k n = rw (le-ltb o 16 (omega (arith, h)), le-ltb o 32 (omega (arith, h)), le-ltb o 36 (omega (arith, h)), ne_eqb o 36 (λ e. omega (arith, e, h)), ne_eqb o 50 n, lt-ltb o 64 k) refl

  pub expression_item : 64 ≤ o → o < 128 → item_of o ws ≡ option_map item.Expression (expression_of (o - 64) ws)
  expression_item h k = rw (le-ltb o 16 (omega (arith, h)), le-ltb o 32 (omega (arith, h)), le-ltb o 36 (omega (arith, h)), ne_eqb o 36 (λ e. omega (arith, e, h)), ne_eqb o 50 (λ e. omega (arith, e, h)), le-ltb o 64 h, lt-ltb o 128 k) refl

  pub later_item : 128 ≤ o → item_of o ws ≡ option_map item.Part (part_of o ws)
  later_item h = rw (le-ltb o 16 (omega (arith, h)), le-ltb o 32 (omega (arith, h)), le-ltb o 36 (omega (arith, h)), ne_eqb o 36 (λ e. omega (arith, e, h)), ne_eqb o 50 (λ e. omega (arith, e, h)), le-ltb o 64 (omega (arith, h)), le-ltb o 128 h) refl

-- which items opcodes have
pub ruleset opcodes_of_items = (plain_item, part_item, expression_item, later_item)

-- what a reader of statements reads has no blocks
abbrev IsPlainReader : (List ℕ → Option Statement) → Type 0
IsPlainReader reader = (ws : List ℕ) (s : Statement) → reader ws ≡ Some s → HasNoBlocks s

-- all of `readers` read statements that have no blocks
abbrev ArePlainReaders : List (ℕ × (List ℕ → Option Statement)) → Type 0
ArePlainReaders [] = ⊤
ArePlainReaders (r ∷ readers) = IsPlainReader r.1 × ArePlainReaders readers

-- a value that a test chose
chosen : {A P : Type 0} (b : Bool) (x y : Option A) (a : A) → cond b x y ≡ Some a → (x ≡ Some a → P) → (y ≡ Some a → P) → P
chosen true x y a h here there = here h
chosen false x y a h here there = there h

-- what is made of a value that was read
made : {A B : Type 0} (P : B → Type 0) (f : A → B) (read : Option A) (b : B) → option_map f read ≡ Some b → ((a : A) → read ≡ Some a → P (f a)) → P b
made P f None b h all = cc
made P f (Some a) b h all = subst P (same_Some (f a) b h) (all a refl)

-- so do all together
by_plain : (readers : List (ℕ × (List ℕ → Option Statement))) → ArePlainReaders readers → (o : ℕ) → IsPlainReader (read_by readers o)
by_plain [] plain o ws s h = cc
by_plain (r ∷ readers) plain o ws s h = chosen (o == r.0) (r.1 ws) (read_by readers o ws) s h (plain.0 ws s) (by_plain readers plain.1 o ws s)

plain_readers : ArePlainReaders fixed_statements
unfolding view.out-Statement denote.Hole.Carrier.out
plain_readers = ((λ ws s h. search rules), ((λ ws s h. search rules), ((λ ws s h. search rules), ((λ ws s h. search rules), ((λ ws s h. search rules), ((λ ws s h. search rules), ((λ ws s h. search rules), ((λ ws s h. search rules), ((λ ws s h. search rules), ((λ ws s h. search rules), ((λ ws s h. search rules), ((λ ws s h. search rules), ((λ ws s h. search rules), ((λ ws s h. search rules), ((λ ws s h. search rules), ((λ ws s h. search rules), ((λ ws s h. search rules), ((λ ws s h. search rules), tt))))))))))))))))))

call_plain : IsPlainReader call_of
unfolding view.out-Statement denote.Hole.Carrier.out
call_plain ws s h = search rules

-- no statement has blocks in it that is read
statement_plain : (o : ℕ) → IsPlainReader (statement_of o)
statement_plain o ws s h = chosen (o == code.STATEMENT_CALL) (call_of ws) (read_by fixed_statements o ws) s h (call_plain ws s) (by_plain fixed_statements plain_readers o ws s)

-- nor has an item of a body
block_mark_plain : (o : ℕ) (ws : List ℕ) (m : Mark) → block_mark_of o ws ≡ Some m → IsPlain m
block_mark_plain o ws m h = search rules

mark_plain : (o : ℕ) (ws : List ℕ) (m : Mark) → mark_of o ws ≡ Some m → IsPlain m
mark_plain o ws m h =
    chosen (is_of_statement o) _ (block_mark_of o ws) m h (λ h. made IsPlain mark.Statement (statement_of o ws) m h (statement_plain o ws)) (block_mark_plain o ws m)

-- nor has a part
named_part_plain : (o : ℕ) (name : Option (List ℕ)) (ws : List ℕ) (p : Part) → named_part_of o name ws ≡ Some p → PartSaysNoBlocks p
named_part_plain o name ws p h = search rules

plain_part_plain : (o : ℕ) (ws : List ℕ) (p : Part) → plain_part_of o ws ≡ Some p → PartSaysNoBlocks p
plain_part_plain o ws p h =
    let P = PartSaysNoBlocks in
    chosen (o == code.OP_RESULT) _ _ p h (λ h. made P part.Result (function_result_of ws) p h (λ _ _. tt)) (λ h.
    chosen (o == code.OP_FUNCTION_FILTER_LEAF) _ _ p h (λ h. made P part.FilterLeaf (only_handle_of ws) p h (λ _ _. tt)) (λ h.
    chosen (o == code.OP_WORKGROUP_SIZES) _ _ p h (λ h. made P part.WorkgroupSizes (workgroup_sizes_of ws) p h (λ _ _. tt)) (λ h.
    chosen (o == code.OP_TASK_PAYLOAD) _ _ p h (λ h. made P part.TaskPayload (only_handle_of ws) p h (λ _ _. tt)) (λ h.
    chosen (o == code.OP_MESH_OUTPUT) _ _ p h (λ h. made P part.MeshOutput (mesh_output_of ws) p h (λ _ _. tt)) (λ h.
    chosen (o == code.OP_STAGE) _ _ p h (λ h. made P part.Stage (entry_stage_of ws) p h (λ _ _. tt)) (λ h.
    chosen (o == code.OP_WORKGROUP_SIZE) _ _ p h (λ h. made P part.WorkgroupSize (workgroup_size_of ws) p h (λ _ _. tt)) (λ h. cc)))))))

part_plain : (o : ℕ) (ws : List ℕ) (p : Part) → part_of o ws ≡ Some p → PartSaysNoBlocks p
part_plain o ws p h =
    let P = PartSaysNoBlocks in
    chosen (nat_lt o code.OP_RESULT) _ _ p h (λ h. option_and_then_some _ (name_of ws) p h λ name _. named_part_plain o name.0 name.1 p) (λ h.
    chosen (o == code.OP_NAMED_EXPRESSION) _ _ p h (λ h. option_and_then_some _ (text_of ws) p h λ text _ h. made P (λ e. part.NamedExpression e text.0) (only_handle_of text.1) p h (λ _ _. tt)) (λ h.
    chosen (nat_lt o code.OP_EXPRESSION) (plain_part_of o ws) _ p h (plain_part_plain o ws p) (λ h.
    chosen (nat_lt o code.STATEMENT_EMIT) _ _ p h (λ h. made P part.Expression (expression_of (o - code.OP_EXPRESSION) ws) p h (λ _ _. tt)) (λ h. made P part.Mark (mark_of o ws) p h (mark_plain o ws)))))

-- nor has an item
plain_item_plain : (o : ℕ) (ws : List ℕ) (x : Item) → plain_item_of o ws ≡ Some x → SaysNoBlocks x
plain_item_plain o ws x h = search rules

named_item_plain : (o : ℕ) (name : Option (List ℕ)) (ws : List ℕ) (x : Item) → named_item_of o name ws ≡ Some x → SaysNoBlocks x
named_item_plain o name ws x h = search rules

pub item_plain : (o : ℕ) (ws : List ℕ) (x : Item) → item_of o ws ≡ Some x → SaysNoBlocks x
item_plain o ws x h =
    let P = SaysNoBlocks in
    let is_part : option_map item.Part (part_of o ws) ≡ Some x → SaysNoBlocks x = λ h. made P item.Part (part_of o ws) x h (part_plain o ws) in
    chosen (nat_lt o code.OP_SCALAR) (plain_item_of o ws) _ x h (plain_item_plain o ws x) (λ h.
    chosen (nat_lt o code.OP_CONSTANT) _ _ x h (λ h. made P item.Type_ (type_of o ws) x h (λ _ _. tt)) (λ h.
    chosen (nat_lt o code.OP_ENTRY_POINT) _ _ x h (λ h. option_and_then_some _ (name_of ws) x h λ name _. named_item_plain o name.0 name.1 x) (λ h.
    chosen (o == code.OP_ENTRY_POINT) _ _ x h (λ h. option_and_then_some _ (text_of ws) x h λ text _ h. made P (λ _. item.EntryPoint text.0) (nothing_of text.1) x h (λ _ _. tt)) (λ h.
    chosen (o == code.OP_RESOURCE) _ _ x h (λ h. option_and_then_some _ (name_of ws) x h λ name _. named_item_plain o name.0 name.1 x) (λ h.
    chosen (nat_lt o code.OP_GLOBAL_EXPRESSION) _ _ x h is_part (λ h.
    chosen (nat_lt o code.OP_EXPRESSION) _ _ x h (λ h. made P item.Expression (expression_of (o - code.OP_GLOBAL_EXPRESSION) ws) x h (λ _ _. tt)) is_part))))))
