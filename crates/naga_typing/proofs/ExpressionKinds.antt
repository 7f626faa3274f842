-- Kinds of expressions: the latest kind of the operands, and laws of the kinds of all.
use Rattle.std.proofs.Common.{◌≡◌, ◌<◌, ◌≤◌, ◌++◌, ◌∷◌, ℕ, zero, suc, List, [], Some, Ok, Contains, map, length, length-append, slice_get, refl, sym, subst, ap, ◌∙◌, arith}
use Rattle.std.specs.Option.{option_map, unwrap_or}
use Rattle.naga_ir.specs.Handles.{ReferencesPrecede, OrderedOperands, own_operand}
use Rattle.naga_ir.specs.References.{operands}
use Rattle.naga_ir.specs.declared.expression.Expression.{Expression}
use Rattle.naga_ir.specs.declared.expression.Expression.TheVariants as form
use Rattle.naga_typing.specs.Kinds.{AreKinds, kind_at, kind_in_order, kind_of, later, latest, of_operands}
use Rattle.naga_typing.specs.declared.expression_kind.ExpressionKind.{ExpressionKind}
use Rattle.naga_typing.specs.declared.expression_kind.ExpressionKind.TheVariants.{Const, Override, Runtime}
use Rattle.naga_arena.proofs.InOrder.{accepted_once, found_at, get_stays, none_follow, one_more_follows}
use Rattle.naga_arena.specs.InOrder.{FollowInOrder, given_at}
use Rattle.naga_typing.proofs.InOrder.{value_by_all}
use Rattle.naga_typing.proofs.Iteration.{Computing, accepts_all, next_index, next_item}

later_assoc : (a b c : ExpressionKind) → later (later a b) c ≡ later a (later b c)
later_assoc Const b c = refl
later_assoc Runtime b c = refl
later_assoc Override Const c = refl
later_assoc Override Override Const = refl
later_assoc Override Override Override = refl
later_assoc Override Override Runtime = refl
later_assoc Override Runtime c = refl

later_const : (k : ExpressionKind) → later k Const ≡ k
later_const Const = refl
later_const Override = refl
later_const Runtime = refl

module _ (kinds : List ExpressionKind) (all : List ℕ) where
  -- of these operands, those before `left` have this latest kind
  pub record Seen (kind : ExpressionKind) (left : List ℕ) : Type 0 where
    pub within : (o : ℕ) → Contains left o → o < length kinds
    total : later kind (latest (map (kind_at kinds) left)) ≡ latest (map (kind_at kinds) all)

  pub none_seen : (left : List ℕ) → left ≡ all → ((o : ℕ) → Contains all o → o < length kinds) → Seen Const left
  none_seen left is within = subst (Seen Const) (sym is) (record { within = within; total = refl })

  module _ (kind : ExpressionKind) (left : List ℕ) (o : ℕ) (more : List ℕ) (s : Seen kind left) (e : left ≡ o ∷ more) where
    pub next_within : o < length kinds
    next_within = s.within o (subst (λ l. Contains l o) (sym e) (0, omega arith, refl))

    pub one_seen : (k now : ExpressionKind) → slice_get kinds o ≡ Some k → now ≡ later kind k → Seen now more
    one_seen k now at is = record {
      within = λ p h. s.within p (subst (λ l. Contains l p) (sym e) (suc h.0, omega (arith, h.1), h.2));
      total =
          ap (λ k. later k (latest (map (kind_at kinds) more))) (is ∙ ap (later kind) (sym (ap (λ o. unwrap_or o Runtime) at)))
          ∙ later_assoc kind (kind_at kinds o) (latest (map (kind_at kinds) more))
          ∙ ap (λ l. later kind (latest (map (kind_at kinds) l))) (sym e)
          ∙ s.total;
    }

  pub all_seen : (kind : ExpressionKind) (left : List ℕ) → Seen kind left → left ≡ [] → kind ≡ latest (map (kind_at kinds) all)
  all_seen kind left s e = sym (later_const kind) ∙ ap (λ l. later kind (latest (map (kind_at kinds) l))) (sym e) ∙ s.total

operands_stay : (kinds more : List ExpressionKind) (os : List ℕ) → ((o : ℕ) → Contains os o → o < length kinds) → map (kind_at (kinds ++ more)) os ≡ map (kind_at kinds) os
operands_stay kinds more [] within = refl
operands_stay kinds more (o ∷ os) within =
    ap (λ k. k ∷ map (kind_at (kinds ++ more)) os) (ap (λ f. unwrap_or f Runtime) (get_stays kinds more o (within o (0, omega arith, refl))))
    ∙ ap (λ ks. kind_at kinds o ∷ ks) (operands_stay kinds more os (λ p h. within p (suc h.0, omega (arith, h.1), h.2)))

-- the kind of an expression stays when the kinds of its operands are known already
kind_stays : (kinds more : List ExpressionKind) (x : Expression) → ((o : ℕ) → Contains (operands x) o → o < length kinds) → kind_of (kinds ++ more) x ≡ kind_of kinds x
kind_stays kinds more x within = by_form x (ap latest (operands_stay kinds more (operands x) within))
  where
    by_form : (x : Expression) → of_operands (kinds ++ more) x ≡ of_operands kinds x → kind_of (kinds ++ more) x ≡ kind_of kinds x
    by_form (form.Compose ty components) same = same
    by_form (form.Splat size value) same = same
    by_form (form.Access base index) same = same
    by_form (form.AccessIndex base index) same = same
    by_form (form.Swizzle size vector pattern) same = same
    by_form (form.Unary op expr) same = same
    by_form (form.Binary op left right) same = same
    by_form (form.Math fun arg arg1 arg2 arg3) same = same
    by_form (form.As expr kind convert) same = same
    by_form (form.Select condition accept reject) same = same
    by_form (form.Relational fun argument) same = same
    by_form (form.ArrayLength expr) same = same
    by_form _ same = refl

module _ (xs : List Expression) (back : ReferencesPrecede (OrderedOperands xs)) where
  -- the operands of an expression precede it
  pub operands_precede : (e : ℕ) (x : Expression) (o : ℕ) → slice_get xs e ≡ Some x → Contains (operands x) o → o < e
  operands_precede e x o at names = back _ _ (own_operand e o x at names)

  -- the kind of each expression follows from the kinds of its operands
  pub kind_by_operands : (kinds : List ExpressionKind) → AreKinds xs kinds → (e : ℕ) (x : Expression) → slice_get xs e ≡ Some x → slice_get kinds e ≡ Some (kind_of kinds x)
  kind_by_operands kinds are e x at = value_by_all kind_of xs kinds are e x at
      (λ before more so_many. kind_stays before more x (λ o names. omega (arith, so_many, operands_precede e x o at names)))

-- there is one list of kinds at most
pub kinds_once : (xs : List Expression) (us vs : List ExpressionKind) → AreKinds xs us → AreKinds xs vs → us ≡ vs
kinds_once xs us vs u v = accepted_once kind_in_order xs us vs u v

-- the expressions so far have these kinds, and these are left
abbrev pub Tracked : List Expression → List ExpressionKind → List (ℕ × Expression) → Type 0
Tracked xs = Computing kind_of accepts_all xs

-- the operands of the next expression have their kinds
pub next_operands : (xs : List Expression) → ReferencesPrecede (OrderedOperands xs) → (kinds : List ExpressionKind) (left : List (ℕ × Expression)) (n : ℕ) (x : Expression) (more : List (ℕ × Expression))
    → Tracked xs kinds left → left ≡ (n, x) ∷ more → (o : ℕ) → Contains (operands x) o → o < length kinds
next_operands xs back kinds left n x more w e o names =
    subst (λ (k : ℕ). o < k) (next_index accepts_all xs (length kinds) left n x more w.iterating e)
    (operands_precede xs back n x o (next_item accepts_all xs (length kinds) left n x more w.iterating e) names)

-- the kinds of the first expressions, of so many
kinds_of_first : (xs : List Expression) (n : ℕ) → n ≤ length xs → (kinds : List ExpressionKind) × (length kinds ≡ n) × FollowInOrder kind_in_order xs kinds
kinds_of_first xs zero within = ([], refl, none_follow kind_in_order xs [] refl)
kinds_of_first xs (suc n) within =
    let before = kinds_of_first xs n (omega (arith, within)) in
    let next = found_at xs n (omega (arith, within)) in
    let kind = kind_of before.0 next.0 in
    let given : given_at kind_in_order xs before.0 (length before.0) ≡ Some (Ok kind) =
    ap (λ k. option_map (kind_in_order before.0 k) (slice_get xs k)) before.1 ∙ ap (option_map (kind_in_order before.0 n)) next.1 in
    (before.0 ++ kind ∷ [], length-append before.0 (kind ∷ []) ∙ omega (arith, before.1), one_more_follows kind_in_order xs before.0 _ kind before.2 given refl)

-- expressions have kinds, whether or not any are found
pub kinds_exist : (xs : List Expression) → (kinds : List ExpressionKind) × AreKinds xs kinds
kinds_exist xs =
    let all = kinds_of_first xs (length xs) (omega arith) in
    (all.0, record { as_many = all.1; follow = all.2 })
