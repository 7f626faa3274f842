-- What a statement refers to, by its parts, and checks of lists one after another.
use Rattle.std.proofs.Common.{ℕ, suc, ◌+◌, ◌<◌, ◌≤◌, length, take, drop, get_or, drop-cons, add-one, sym, subst, ◌≡◌, List, [], ◌∷◌, ◌++◌, append_assoc, Option, refl, map, ap, ◌∙◌, option_to_list}
use Rattle.std.specs.Prelude.{Result, Ok, Err}
use Rattle.std.proofs.lemmas.List.Elements.{All-nil, All-cons, All-append}
use Rattle.std.proofs.lemmas.List.{take_more, take_all, take-append-drop, map-append, append-nil}
use Rattle.std.specs.List.{flat_map}
use Rattle.naga_ir.specs.steps.StatementParts.{Form, references_of}
use Rattle.naga_ir.specs.FirstError.{AcceptsAll, IsFirstErrorOf, ChecksEach}
use Rattle.naga_ir.specs.Statements.{References, own_references, own_operands, own_target, inner_references, statement_step, block_step, case_step, statement_references, block_references, case_references}
use Rattle.naga_ir.specs.declared.reference.Reference.{Reference}
use Rattle.naga_ir.specs.declared.reference.Reference.TheVariants as to
use Rattle.naga_ir.specs.declared.statement.Statement.{Statement}
use Rattle.naga_ir.specs.declared.statement.Block.{Block}
use Rattle.naga_ir.specs.declared.statement.SwitchCase.{SwitchCase}
use Rattle.naga_ir.specs.declared.statement.Statement.TheOpen.{Statement-F, Block-F}
use Rattle.naga_ir.specs.declared.statement.Statement.TheOpen as one
use Rattle.naga_ir.specs.declared.statement.Statement.TheViews.{out-Statement, out-Block}
use Rattle.naga_ir.specs.declared.statement.Statement.TheFolds.{map-Statement, fold_out-Statement, fold_out-Block, fold_out-SwitchCase}

-- lists that are made one by one are made and then put one after another
pub flat_map-of_map : {A B : Type 0} (f : A → List B) (xs : List A) → flat_map (λ ys. ys) (map f xs) ≡ flat_map f xs
flat_map-of_map f [] = refl
flat_map-of_map f (x ∷ xs) = ap (λ zs. f x ++ zs) (flat_map-of_map f xs)

abbrev pub folded : Form → Statement-F References References References
folded = map-Statement Statement Block SwitchCase References References References statement_references block_references case_references

-- what the blocks in a statement refer to
abbrev pub nested : Form → References
nested (one.Block b) = block_references b
nested (one.If condition accept reject) = block_references accept ++ block_references reject
nested (one.Switch selector cases) = flat_map case_references cases.items
nested (one.Loop body continuing break_if) = block_references body ++ block_references continuing
nested _ = []

own-folded : (x : Form) → own_references References References References (folded x) ≡ own_references Statement Block SwitchCase x
unfolding own_operands own_target
own-folded (one.Emit range) = refl
own-folded (one.Block b) = refl
own-folded (one.If condition accept reject) = refl
own-folded (one.Switch selector cases) = refl
own-folded (one.Loop body continuing break_if) = refl
own-folded one.Break = refl
own-folded one.Continue = refl
own-folded (one.Return value) = refl
own-folded one.Kill = refl
own-folded (one.ControlBarrier barrier) = refl
own-folded (one.MemoryBarrier barrier) = refl
own-folded (one.Store pointer value) = refl
own-folded (one.ImageStore image coordinate array_index value) = refl
own-folded (one.Atomic pointer fun value result) = refl
own-folded (one.ImageAtomic image coordinate array_index fun value) = refl
own-folded (one.WorkGroupUniformLoad pointer result) = refl
own-folded (one.Call function arguments result) = refl
own-folded (one.RayQuery query fun) = refl
own-folded (one.RayPipelineFunction fun) = refl
own-folded (one.SubgroupBallot result predicate) = refl
own-folded (one.SubgroupGather mode argument result) = refl
own-folded (one.SubgroupCollectiveOperation op collective_op argument result) = refl
own-folded (one.CooperativeStore target pointer stride) = refl

inner-folded : (x : Form) → inner_references (folded x) ≡ nested x
inner-folded (one.Emit range) = refl
inner-folded (one.Block b) = refl
inner-folded (one.If condition accept reject) = refl
inner-folded (one.Switch selector cases) = flat_map-of_map case_references cases.items
inner-folded (one.Loop body continuing break_if) = refl
inner-folded one.Break = refl
inner-folded one.Continue = refl
inner-folded (one.Return value) = refl
inner-folded one.Kill = refl
inner-folded (one.ControlBarrier barrier) = refl
inner-folded (one.MemoryBarrier barrier) = refl
inner-folded (one.Store pointer value) = refl
inner-folded (one.ImageStore image coordinate array_index value) = refl
inner-folded (one.Atomic pointer fun value result) = refl
inner-folded (one.ImageAtomic image coordinate array_index fun value) = refl
inner-folded (one.WorkGroupUniformLoad pointer result) = refl
inner-folded (one.Call function arguments result) = refl
inner-folded (one.RayQuery query fun) = refl
inner-folded (one.RayPipelineFunction fun) = refl
inner-folded (one.SubgroupBallot result predicate) = refl
inner-folded (one.SubgroupGather mode argument result) = refl
inner-folded (one.SubgroupCollectiveOperation op collective_op argument result) = refl
inner-folded (one.CooperativeStore target pointer stride) = refl

pub statement-out : (s : Statement) → statement_references s ≡ references_of s ++ nested (out-Statement s)
unfolding statement_references block_references case_references
statement-out s =
    fold_out-Statement References References References statement_step block_step case_step s
    ∙ ap (λ (xs : References). xs ++ inner_references (folded (out-Statement s))) (own-folded (out-Statement s))
    ∙ ap (λ (xs : References). references_of s ++ xs) (inner-folded (out-Statement s))

pub block-out : (b : Block) → block_references b ≡ flat_map statement_references (out-Block b).body.items
unfolding block_references statement_references
block-out b = fold_out-Block References References References statement_step block_step case_step b ∙ flat_map-of_map statement_references (out-Block b).body.items

pub case-out : (c : SwitchCase) → case_references c ≡ block_references c.body
unfolding case_references block_references
case-out c = fold_out-SwitchCase References References References statement_step block_step case_step c

-- a refusal stays the first if more items follow
pub first-before : {A E : Type 0} {check : A → Result (Unit {0}) E → Type 0} {e : E} (xs ys : List A) → IsFirstErrorOf check xs e → IsFirstErrorOf check (xs ++ ys) e
first-before xs ys h = record {
  before = h.before;
  item = h.item;
  after = h.after ++ ys;
  at = ap (λ zs. zs ++ ys) h.at ∙ append_assoc h.before (h.item ∷ h.after) ys;
  accepted_before = h.accepted_before;
  refused = h.refused;
}

-- a refusal stays the first if accepted items precede
pub first-after : {A E : Type 0} {check : A → Result (Unit {0}) E → Type 0} {e : E} (xs ys : List A) → AcceptsAll check xs → IsFirstErrorOf check ys e → IsFirstErrorOf check (xs ++ ys) e
first-after {check = check} xs ys all h = record {
  before = xs ++ h.before;
  item = h.item;
  after = h.after;
  at = ap (λ zs. xs ++ zs) h.at ∙ sym (append_assoc xs h.before (h.item ∷ h.after));
  accepted_before = All-append (λ item. check item (Ok tt)) xs h.before all h.accepted_before;
  refused = h.refused;
}

flat_map-append : {A B : Type 0} (f : A → List B) (xs ys : List A) → flat_map f (xs ++ ys) ≡ flat_map f xs ++ flat_map f ys
flat_map-append f [] ys = refl
flat_map-append f (x ∷ xs) ys = ap (λ zs. f x ++ zs) (flat_map-append f xs ys) ∙ sym (append_assoc (f x) (flat_map f xs) (flat_map f ys))

pub flat_map-map : {A B C : Type 0} (g : B → C) (f : A → List B) (xs : List A) → flat_map (λ x. map g (f x)) xs ≡ map g (flat_map f xs)
flat_map-map g f [] = refl
flat_map-map g f (x ∷ xs) = ap (λ zs. map g (f x) ++ zs) (flat_map-map g f xs) ∙ sym (map-append g (f x) (flat_map f xs))

-- what an expression that is named refers to
abbrev pub named : ℕ → References
named expression = to.Expression expression ∷ []

-- what an expression that may be named refers to
abbrev pub named_if : Option ℕ → References
named_if operand = map to.Expression (option_to_list operand)

module _ {B E : Type 0} (check : B → Result (Unit {0}) E → Type 0) where
  -- equal lists have equal checks
  pub checks-along : (xs ys : List B) (r : Result (Unit {0}) E) → xs ≡ ys → ChecksEach check xs r → ChecksEach check ys r
  checks-along xs ys r e h = subst (λ zs. ChecksEach check zs r) e h

  -- checking no items accepts
  pub checks-none : ChecksEach check [] (Ok tt)
  checks-none = record { accepted = All-nil (λ item. check item (Ok tt)); refused = tt }

  -- checking one item gives the result of its check
  pub checks-single : (x : B) (r : Result (Unit {0}) E) → check x r → ChecksEach check (x ∷ []) r
  checks-single x (Ok _) h = record { accepted = All-cons (λ item. check item (Ok tt)) x [] h (All-nil (λ item. check item (Ok tt))); refused = tt }
  checks-single x (Err error) h = record {
    accepted = tt;
    refused = record {
      before = [];
      item = x;
      after = [];
      at = refl;
      accepted_before = All-nil (λ item. check item (Ok tt));
      refused = h;
    };
  }

  -- if the first of two lists is accepted, the second decides
  pub checks-then : (xs ys : List B) (r : Result (Unit {0}) E) → ChecksEach check xs (Ok tt) → ChecksEach check ys r → ChecksEach check (xs ++ ys) r
  checks-then xs ys (Ok _) all h = record { accepted = All-append (λ item. check item (Ok tt)) xs ys all.accepted h.accepted; refused = tt }
  checks-then xs ys (Err error) all h = record { accepted = tt; refused = first-after xs ys all.accepted h.refused }

  -- if the first of two lists is refused, it decides
  pub checks-before : (xs ys : List B) (error : E) → ChecksEach check xs (Err error) → ChecksEach check (xs ++ ys) (Err error)
  checks-before xs ys error h = record { accepted = tt; refused = first-before xs ys h.refused }

  -- a loop continues if all references of an item are accepted
  pub checks-more : {A : Type 0} (f : A → List B) (xs : List A) (i : ℕ) (x : A) → i < length xs → x ≡ get_or xs i x
      → ChecksEach check (flat_map f (take i xs)) (Ok tt) → ChecksEach check (f x) (Ok tt) → ChecksEach check (flat_map f (take (i + 1) xs)) (Ok tt)
  checks-more f xs i x h e before here =
      let split : flat_map f (take (i + 1) xs) ≡ flat_map f (take i xs) ++ f x =
      ap (λ ys. flat_map f ys) (take_more xs i x h ∙ ap (λ y. take i xs ++ y ∷ []) (sym e))
      ∙ flat_map-append f (take i xs) (x ∷ [])
      ∙ ap (λ ys. flat_map f (take i xs) ++ ys) (append-nil (f x)) in
      checks-along _ _ (Ok tt) (sym split) (checks-then (flat_map f (take i xs)) (f x) (Ok tt) before here)

  -- a loop stops if a reference of an item is refused
  pub checks-stop : {A : Type 0} (f : A → List B) (xs : List A) (i : ℕ) (x : A) (error : E) (r : Result (Unit {0}) E) → i < length xs → x ≡ get_or xs i x → r ≡ Err error
      → ChecksEach check (flat_map f (take i xs)) (Ok tt) → ChecksEach check (f x) (Err error) → ChecksEach check (flat_map f xs) r
  checks-stop f xs i x error r h e is before here =
      let rest : List B = flat_map f (drop (i + 1) xs) in
      let split : flat_map f xs ≡ flat_map f (take i xs) ++ (f x ++ rest) =
      ap (λ ys. flat_map f ys) (sym (take-append-drop i xs) ∙ ap (λ ys. take i xs ++ ys) (rw (add-one, drop-cons xs i x) (ap (λ y. y ∷ drop (suc i) xs) (sym e))))
      ∙ flat_map-append f (take i xs) (x ∷ drop (i + 1) xs) in
      subst (ChecksEach check (flat_map f xs)) (sym is)
      (checks-along _ _ (Err error) (sym split) (checks-then (flat_map f (take i xs)) (f x ++ rest) (Err error) before (checks-before (f x) rest error here)))

  -- a loop that is through has accepted all
  pub checks-end : {A : Type 0} (f : A → List B) (xs : List A) (i : ℕ) → length xs ≤ i → ChecksEach check (flat_map f (take i xs)) (Ok tt) → ChecksEach check (flat_map f xs) (Ok tt)
  checks-end f xs i h all = checks-along _ _ (Ok tt) (ap (λ ys. flat_map f ys) (take_all i xs h)) all

module _ {E : Type 0} (check : Reference → Result (Unit {0}) E → Type 0) where
  -- checking the references of a statement itself, by its parts
  pub checks-own : (targets : References) (arguments others operands : List ℕ) (r : Result (Unit {0}) E) → arguments ++ others ≡ operands
      → ChecksEach check targets (Ok tt) → ChecksEach check (map to.Expression arguments ++ map to.Expression others) r → ChecksEach check (targets ++ map to.Expression operands) r
  checks-own targets arguments others operands r e all h =
      checks-then check targets (map to.Expression operands) r all
      (checks-along check _ _ r (sym (map-append to.Expression arguments others) ∙ ap (map to.Expression) e) h)

  -- if the references of a statement itself are accepted, the blocks in it decide
  pub checks-statement : (s : Statement) (x : Form) (r : Result (Unit {0}) E) → out-Statement s ≡ x
      → ChecksEach check (references_of s) (Ok tt) → ChecksEach check (nested x) r → ChecksEach check (statement_references s) r
  checks-statement s x r is all h =
      checks-along check _ _ r (sym (statement-out s ∙ ap (λ y. references_of s ++ nested y) is))
      (checks-then check (references_of s) (nested x) r all h)
