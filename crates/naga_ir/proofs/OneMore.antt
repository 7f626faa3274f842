-- What a list keeps when one more item is added, and what the paths of an arena of types keep.
use Rattle.std.proofs.Common.{◌≡◌, ◌∙◌, ◌+◌, ◌/◌, ◌%◌, ◌<◌, ◌≤◌, ⊎_elim, ℕ, zero, suc, List, [], ◌∷◌, ◌++◌, Some, Contains, length, slice_get, refl, sym, ap, subst, arith, length-append}
use Rattle.std.proofs.Math.Nat.{eq-or-lt_of_le}
use Rattle.std.proofs.lemmas.Bool.Decides.{eqb_tells}
use Rattle.std.proofs.lemmas.Option.{same_Some, slice_get_within, get_or_from_slice_get}
use Rattle.naga_arena.specs.Numbers.{largest_u32}
use Rattle.naga_arena.proofs.InOrder.{get_stays}
use Rattle.naga_arena.proofs.Progress.{slice_get-seam}
use Rattle.naga_ir.specs.declared.types.«Type».{«Type»}
use Rattle.naga_ir.specs.Distinct.{AllDistinct}
use Rattle.naga_ir.specs.steps.TypePaths.{first_hash, first_links, next_bits, Leads, IsReached, AllReached, LinksGoOn, AreFirstHashes, KeepsLinks, IsFreeLink, IsLinked, link_at, link_of, links_of}

module _ {X : Type 0} (xs : List X) (x : X) where
  -- a list contains the item at each of its indices
  pub listed : (k : ℕ) → slice_get xs k ≡ Some x → Contains xs x
  listed k at = (k, slice_get_within xs k x at, get_or_from_slice_get xs k x x at)

  -- what holds of each item of a list and of one more holds of each item of the list with that one
  pub each_and_last : (P : ℕ → X → Type 0) → ((k : ℕ) (y : X) → slice_get xs k ≡ Some y → P k y) → P (length xs) x → (k : ℕ) (y : X) → slice_get (xs ++ x ∷ []) k ≡ Some y → P k y
  each_and_last P each last k y at =
      let reached : k ≤ length xs = omega (arith, slice_get_within (xs ++ x ∷ []) k y at, length-append xs (x ∷ [])) in
      ⊎_elim
      (λ (e : k ≡ length xs).
      let same : x ≡ y = same_Some x y (sym (slice_get-seam xs [] x) ∙ ap (slice_get (xs ++ x ∷ [])) (sym e) ∙ at) in
      subst (λ n. P n y) (sym e) (subst (λ z. P (length xs) z) same last))
      (λ (earlier : k < length xs). each k y (sym (get_stays xs (x ∷ []) k earlier) ∙ at))
      (eq-or-lt_of_le reached)

  -- the items stay distinct if the list does not contain the new one
  pub still_distinct : AllDistinct xs → (Contains xs x → ⊥) → AllDistinct (xs ++ x ∷ [])
  still_distinct distinct none i j y p q =
      each_and_last
      (λ i y. slice_get (xs ++ x ∷ []) j ≡ Some y → i ≡ j)
      (λ i y p q. each_and_last (λ j z. z ≡ y → i ≡ j) (λ j z r e. distinct i j y p (r ∙ ap Some e)) (λ e. absurd (none (listed i (p ∙ ap Some (sym e))))) j y q refl)
      (λ q. each_and_last (λ j z. z ≡ x → length xs ≡ j) (λ j z r e. absurd (none (listed j (r ∙ ap Some e)))) (λ e. refl) j x q refl)
      i
      y
      p
      q

-- a path leads where it led if no link is lost
pub path_kept : (links more : List ℕ) (ty : «Type») → KeepsLinks links more → (steps depth bits link k : ℕ) → Leads links ty depth bits link steps k → Leads more ty depth bits link steps k
path_kept links more ty keeps zero depth bits link k leads = keeps link k leads
path_kept links more ty keeps (suc steps) depth bits link k leads =
    (leads.0, keeps link leads.0 leads.1, path_kept links more ty keeps steps (depth + 1) (next_bits ty depth bits) (link_of leads.0 bits) k leads.2)

-- the first hashes of types and of one more
pub more_hashes : (hashes : List ℕ) (types : List «Type») (ty : «Type») → AreFirstHashes hashes types → AreFirstHashes (hashes ++ first_hash ty ∷ []) (types ++ ty ∷ [])
more_hashes hashes types ty are =
    let more = first_hash ty ∷ [] in (
      omega (arith, are.0, length-append hashes more, length-append types (ty ∷ [])),
      each_and_last
          types
          ty
          (λ k t. slice_get (hashes ++ more) k ≡ Some (first_hash t))
          (λ k t at. get_stays hashes more k (slice_get_within hashes k (first_hash t) (are.1 k t at)) ∙ are.1 k t at)
          (ap (slice_get (hashes ++ more)) (sym are.0) ∙ slice_get-seam hashes [] (first_hash ty)),
    )

-- link i, which led nowhere, leads to node n, the new one
module _ (links more : List ℕ) (i n : ℕ) (free : link_at links i ≡ 0) (linked : IsLinked links more i n) where
  pub all_kept : KeepsLinks links more
  all_kept j node at =
      ⊎_elim
      (λ same. absurd (omega (arith, sym at ∙ ap (link_at links) same.1 ∙ free)))
      (λ apart. linked.elsewhere j apart.1 ∙ at)
      (eqb_tells j i)

  pub go_on : LinksGoOn links n → i < links_of n → LinksGoOn more (n + 1)
  go_on before room = (
    omega (arith, linked.many),
    λ j node at. ⊎_elim
        (λ same.
        let is : suc n ≡ suc node = sym linked.here ∙ ap (link_at more) (sym same.1) ∙ at in
        (omega (arith, is), omega (arith, is, same.1, room)))
        (λ apart.
        let old = before.1 j node (sym (linked.elsewhere j apart.1) ∙ at) in
        (omega (arith, old.0), old.1))
        (eqb_tells j i),
  )

  pub reach : (types : List «Type») (ty : «Type») → length types ≡ n → AllReached links types → IsFreeLink links ty n i → AllReached more (types ++ ty ∷ [])
  reach types ty whole reached end =
      each_and_last
      types
      ty
      (λ k t. IsReached more t k)
      (λ k t at.
      let was = reached k t at in
      (was.0, path_kept links more t all_kept was.0 0 (first_hash t / first_links) (first_hash t % first_links) k was.1))
      (subst (λ m. IsReached more ty m) (sym whole) (end.1 more all_kept linked.here))

-- what holds of the fields of an arena of types: the types, the number of spans, the hashes and the links
abbrev pub IsWhole : List «Type» → ℕ → List ℕ → List ℕ → Type 0
IsWhole types spans hashes links =
    (spans ≡ length types) × (length types ≤ largest_u32) × AllDistinct types × AreFirstHashes hashes types × LinksGoOn links (length types) × AllReached links types

-- `IsWhole` holds of equal fields
pub whole_alike : (types all : List «Type») (spans count : ℕ) (hashes now links new : List ℕ) → all ≡ types → count ≡ spans → now ≡ hashes → new ≡ links → IsWhole types spans hashes links → IsWhole all count now new
whole_alike types all spans count hashes now links new e f g h whole =
    subst
    (λ ts. IsWhole ts count now new)
    (sym e)
    (subst (λ n. IsWhole types n now new) (sym f) (subst (λ hs. IsWhole types spans hs new) (sym g) (subst (λ ls. IsWhole types spans hashes ls) (sym h) whole)))

-- `IsWhole` holds with one more type that the others lack, at the end of its path
pub whole_with : (types : List «Type») (spans : ℕ) (hashes links more : List ℕ) (ty : «Type») (i : ℕ)
    → IsWhole types spans hashes links
    → length types < largest_u32
    → (Contains types ty → ⊥)
    → IsFreeLink links ty (length types) i
    → i < links_of (length types)
    → IsLinked links more i (length types)
    → IsWhole (types ++ ty ∷ []) (spans + 1) (hashes ++ first_hash ty ∷ []) more
whole_with types spans hashes links more ty i whole room none end before linked =
    let n = length types in
    let one_more : length (types ++ ty ∷ []) ≡ n + 1 = length-append types (ty ∷ []) in (
      omega (arith, whole.0, one_more),
      omega (arith, one_more, room),
      still_distinct types ty whole.2 none,
      more_hashes hashes types ty whole.3,
      subst (λ m. LinksGoOn more m) (sym one_more) (go_on links more i n end.0 linked whole.4 before),
      reach links more i n end.0 linked types ty refl whole.5 end,
    )

-- what is searched for a type: lists that are equal to those of an arena
module _ (searched types : List «Type») (same : searched ≡ types) where
  -- a type that the searched list lacks has no index
  pub no_index : (ty : «Type») (k : ℕ) → (Contains searched ty → ⊥) → slice_get types k ≡ Some ty → ⊥
  no_index ty k none at = none (listed searched ty k (ap (λ l. slice_get l k) same ∙ at))

  -- a type that has an index is contained
  pub has_index : (ty : «Type») (k : ℕ) → slice_get searched k ≡ Some ty → Contains types ty
  has_index ty k at = listed types ty k (ap (λ l. slice_get l k) (sym same) ∙ at)

  -- the index of a type is that of a handle
  pub index_below : (ty : «Type») (k : ℕ) → length types ≤ largest_u32 → slice_get searched k ≡ Some ty → k < largest_u32
  index_below ty k few at = omega (arith, few, slice_get_within types k ty (ap (λ l. slice_get l k) (sym same) ∙ at))

  -- links go on as they did
  pub go_on_in : (followed links : List ℕ) → followed ≡ links → LinksGoOn links (length types) → LinksGoOn followed (length searched)
  go_on_in followed links alike on =
      subst (λ ls. LinksGoOn ls (length searched)) (sym alike) (subst (λ (ts : List «Type»). LinksGoOn links (length ts)) (sym same) on)

  -- the end of a path is that of the type in these lists
  pub end_in : (followed links : List ℕ) (ty : «Type») (i : ℕ) → followed ≡ links → IsFreeLink followed ty (length searched) i → IsFreeLink links ty (length types) i
  end_in followed links ty i alike end = subst (λ ls. IsFreeLink ls ty (length types) i) alike (subst (λ (ts : List «Type»). IsFreeLink followed ty (length ts) i) same end)
