-- What items and parts say, and one more.
use Rattle.std.proofs.Common.{◌≡◌, ℕ, ◌+◌, ◌≤◌, suc, List, [], ◌∷◌, ◌++◌, Option, None, Some, append_assoc, arith, filter_map, length, length-append, refl, sym, ap, ◌∙◌, subst}
use Rattle.std.specs.List.{cons_option}
use Rattle.std.specs.Prelude.{Err, IfOk, Ok, Result}
use Rattle.naga_draft.specs.Items.{AllParts, AllSaid, Said, SaidOfFunction, all_parts, all_said, said_by, said_by_part}
use Rattle.naga_draft.specs.Modules.{first_of}
use Rattle.naga_draft.specs.declared.item.Item.{Item}
use Rattle.naga_draft.specs.declared.item.Part.{Part}
use Rattle.naga_ir.proofs.ListLaws.{pick_front, pick_more, with_option}

-- what parts say, and what one more says
abbrev pub with_part : AllParts → SaidOfFunction → AllParts
with_part s p = record {
  arguments = with_option s.arguments p.argument;
  local_variables = with_option s.local_variables p.local_variable;
  results = with_option s.results p.result;
  named_expressions = with_option s.named_expressions p.named_expression;
  filter_leaves = with_option s.filter_leaves p.filter_leaf;
  workgroup_sizes = with_option s.workgroup_sizes p.workgroup_sizes;
  stages = with_option s.stages p.stage;
  workgroup_size = with_option s.workgroup_size p.workgroup_size;
  task_payloads = with_option s.task_payloads p.task_payload;
  mesh_outputs = with_option s.mesh_outputs p.mesh_output;
  expressions = with_option s.expressions p.expression;
  marks = with_option s.marks p.mark;
}

-- parts and one more say what the parts say and what it says
pub parts_more : (parts : List Part) (p : Part) → all_parts (parts ++ p ∷ []) ≡ with_part (all_parts parts) (said_by_part p)
parts_more parts p = λ j. record {
  arguments = pick_more (λ p. (said_by_part p).argument) parts p j;
  local_variables = pick_more (λ p. (said_by_part p).local_variable) parts p j;
  results = pick_more (λ p. (said_by_part p).result) parts p j;
  named_expressions = pick_more (λ p. (said_by_part p).named_expression) parts p j;
  filter_leaves = pick_more (λ p. (said_by_part p).filter_leaf) parts p j;
  workgroup_sizes = pick_more (λ p. (said_by_part p).workgroup_sizes) parts p j;
  stages = pick_more (λ p. (said_by_part p).stage) parts p j;
  workgroup_size = pick_more (λ p. (said_by_part p).workgroup_size) parts p j;
  task_payloads = pick_more (λ p. (said_by_part p).task_payload) parts p j;
  mesh_outputs = pick_more (λ p. (said_by_part p).mesh_output) parts p j;
  expressions = pick_more (λ p. (said_by_part p).expression) parts p j;
  marks = pick_more (λ p. (said_by_part p).mark) parts p j;
}

-- what items say, and what one more says
abbrev pub with_item : AllSaid → Said → AllSaid
with_item s x = record {
  flags = with_option s.flags x.flags;
  capabilities = with_option s.capabilities x.capabilities;
  resolved = with_option s.resolved x.resolved;
  special_types = with_option s.special_types x.special_types;
  predeclared_types = with_option s.predeclared_types x.predeclared_type;
  filters = with_option s.filters x.filter;
  filter_leaves = with_option s.filter_leaves x.filter_leaf;
  types = with_option s.types x.type;
  constants = with_option s.constants x.constant;
  overrides = with_option s.overrides x.id;
  global_variables = with_option s.global_variables x.global_variable;
  expressions = with_option s.expressions x.expression;
  on_types = with_option s.on_types x.on_type;
  on_members = with_option s.on_members x.on_member;
  on_functions = with_option s.on_functions x.on_function;
  on_entry_points = with_option s.on_entry_points x.on_entry_point;
  on_constants = with_option s.on_constants x.on_constant;
  on_variables = with_option s.on_variables x.on_variable;
}

-- items and one more say what the items say and what it says
pub items_more : (items : List Item) (x : Item) → all_said (items ++ x ∷ []) ≡ with_item (all_said items) (said_by x)
items_more items x = λ j. record {
  flags = pick_more (λ x. (said_by x).flags) items x j;
  capabilities = pick_more (λ x. (said_by x).capabilities) items x j;
  resolved = pick_more (λ x. (said_by x).resolved) items x j;
  special_types = pick_more (λ x. (said_by x).special_types) items x j;
  predeclared_types = pick_more (λ x. (said_by x).predeclared_type) items x j;
  filters = pick_more (λ x. (said_by x).filter) items x j;
  filter_leaves = pick_more (λ x. (said_by x).filter_leaf) items x j;
  types = pick_more (λ x. (said_by x).type) items x j;
  constants = pick_more (λ x. (said_by x).constant) items x j;
  overrides = pick_more (λ x. (said_by x).id) items x j;
  global_variables = pick_more (λ x. (said_by x).global_variable) items x j;
  expressions = pick_more (λ x. (said_by x).expression) items x j;
  on_types = pick_more (λ x. (said_by x).on_type) items x j;
  on_members = pick_more (λ x. (said_by x).on_member) items x j;
  on_functions = pick_more (λ x. (said_by x).on_function) items x j;
  on_entry_points = pick_more (λ x. (said_by x).on_entry_point) items x j;
  on_constants = pick_more (λ x. (said_by x).on_constant) items x j;
  on_variables = pick_more (λ x. (said_by x).on_variable) items x j;
}

-- a list without a first item is empty
pub none_first : {A : Type 0} (xs : List A) → first_of xs ≡ None → xs ≡ []
none_first [] h = refl
none_first (x ∷ xs) h = cc

-- a list that has a first item has one at least
pub some_first : {A : Type 0} (xs : List A) → ¬ (first_of xs ≡ None) → 1 ≤ length xs
some_first [] h = absurd (h refl)
some_first (x ∷ xs) h = omega arith

-- an item after none is the first
pub first_after : {A : Type 0} (xs : List A) (a : A) → first_of xs ≡ None → first_of (xs ++ a ∷ []) ≡ Some a
first_after xs a h = ap (λ ys. first_of (ys ++ a ∷ [])) (none_first xs h)

-- an item after none is alone
pub alone_after : {A : Type 0} (xs : List A) (a : A) → first_of xs ≡ None → length (xs ++ a ∷ []) ≤ 1
alone_after {A} xs a h = subst (λ (ys : List A). length (ys ++ a ∷ []) ≤ 1) (sym (none_first xs h)) (omega arith)

-- an item that came to a list with room still fits in
pub fits_after : {A : Type 0} (xs : List A) (a : A) (most : ℕ) → length xs + 1 ≤ most → length (xs ++ a ∷ []) ≤ most
fits_after xs a most h = let long = length-append xs (a ∷ []) in omega (arith, h, long)

-- what is picked of a list, of an item after it and of more contains what is picked of the item
pub pick_between : {X A : Type 0} (pick : X → Option A) (xs : List X) (x : X) (ys : List X) (a : A) → pick x ≡ Some a → filter_map pick (xs ++ x ∷ ys) ≡ filter_map pick xs ++ a ∷ filter_map pick ys
pick_between pick xs x ys a h = ap (filter_map pick) (sym (append_assoc xs (x ∷ []) ys)) ∙ pick_front pick xs x ys a h

-- if as much is picked of the front as may be, nothing more is
pub pick_many : {X A : Type 0} (pick : X → Option A) (most : ℕ) (xs : List X) (x : X) (ys : List X) (a : A) → pick x ≡ Some a → most ≤ length (filter_map pick xs) → ¬ (length (filter_map pick (xs ++ x ∷ ys)) ≤ most)
pick_many {X} {A} pick most xs x ys a h full few =
    let long : length (filter_map pick xs ++ a ∷ filter_map pick ys) ≤ most = subst (λ (l : List A). length l ≤ most) (pick_between pick xs x ys a h) few in
    omega (arith, simp length-append at long)

-- what is picked of an item is not nothing
pub pick_some : {X A : Type 0} (pick : X → Option A) (xs : List X) (x : X) (ys : List X) (a : A) → pick x ≡ Some a → ¬ (filter_map pick (xs ++ x ∷ ys) ≡ [])
pick_some {X} {A} pick xs x ys a h none =
    let here : filter_map pick xs ++ a ∷ filter_map pick ys ≡ [] = sym (pick_between pick xs x ys a h) ∙ none in
    let long : length (filter_map pick xs ++ a ∷ filter_map pick ys) ≡ 0 = ap length here in
    absurd (omega (arith, simp length-append at long))

-- no more is picked of a list than it has
pub pick_few : {X A : Type 0} (pick : X → Option A) (xs : List X) → length (filter_map pick xs) ≤ length xs
pick_few pick [] = omega arith
pick_few {X} {A} pick (x ∷ xs) = go (pick x) (pick_few pick xs)
  where
    go : (o : Option A) → length (filter_map pick xs) ≤ length xs → length (cons_option o (filter_map pick xs)) ≤ suc (length xs)
    go None few = omega (arith, few)
    go (Some a) few = omega (arith, few)

-- what follows of two facts on a value, if there is one
pub both_ok : {X Y : Type 0} (r : Result X Y) (P Q R : X → Type 0) → ((x : X) → P x → Q x → R x) → IfOk r P → IfOk r Q → IfOk r R
both_ok (Ok x) P Q R f p q = f x p q
both_ok (Err e) P Q R f p q = tt

-- what follows of three facts on a value, if there is one
pub three_ok : {X Y : Type 0} (r : Result X Y) (P Q R S : X → Type 0) → ((x : X) → P x → Q x → R x → S x) → IfOk r P → IfOk r Q → IfOk r R → IfOk r S
three_ok (Ok x) P Q R S f p q r = f x p q r
three_ok (Err e) P Q R S f p q r = tt
