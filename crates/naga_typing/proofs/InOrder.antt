-- Values in order, each by the values before it, as values by one another.
use Rattle.std.proofs.Common.{◌≡◌, ◌≤◌, ℕ, List, ◌++◌, Some, Ok, Result, length, slice_get, take, drop, sym, ap, ◌∙◌, arith}
use Rattle.std.specs.Option.{option_map}
use Rattle.std.proofs.lemmas.List.{length-take-le, take-append-drop}
use Rattle.std.proofs.lemmas.Option.{slice_get_within}
use Rattle.naga_arena.proofs.InOrder.{found_at}
use Rattle.naga_arena.specs.InOrder.{AllAcceptedInOrder, RuleInOrder}

module _ {X V : Type 0} (rule : List V → X → V) (items : List X) where
  abbrev in_order : RuleInOrder X V ⊥
  in_order before k x = Ok (rule before x)

  -- the value of an item is what the rule gives by the values before it
  pub value_by_those_before : (values : List V) → AllAcceptedInOrder in_order items values → (k : ℕ) (x : X) → slice_get items k ≡ Some x → slice_get values k ≡ Some (rule (take k values) x)
  value_by_those_before values all k x at =
      let found = found_at values k (omega (arith, all.as_many, slice_get_within items k x at)) in
      let given = sym (all.follow k found.0 found.1) ∙ ap (option_map (in_order (take k values) k)) at in
      found.1 ∙ ap Some (same found.0 (rule (take k values) x) given)
    where
      same : (v w : V) → (let left : Result V ⊥ = Ok v in Some left ≡ Some (Ok w)) → v ≡ w
      same v w e = cc e

  -- if the rule depends only on the values before an item, the value of each item is also what it gives by all values
  pub value_by_all : (values : List V) → AllAcceptedInOrder in_order items values → (k : ℕ) (x : X) → slice_get items k ≡ Some x
      → ((before more : List V) → length before ≡ k → rule (before ++ more) x ≡ rule before x) → slice_get values k ≡ Some (rule values x)
  value_by_all values all k x at stays =
      let within : k ≤ length values = omega (arith, all.as_many, slice_get_within items k x at) in
      let same : rule values x ≡ rule (take k values) x = sym (ap (λ l. rule l x) (take-append-drop k values)) ∙ stays (take k values) (drop k values) (length-take-le k values within) in
      value_by_those_before values all k x at ∙ ap Some (sym same)
