-- Each step leaves fewer steps.
use Rattle.std.proofs.Common.{◌≡◌, ◌+◌, ◌-◌, ◌*◌, ◌<◌, ◌≤◌, ⊎_elim, ◌⊎◌, ℕ, zero, suc, List, [], ◌∷◌, ◌++◌, length, sym, subst, ap, ◌∙◌, arith}
use Rattle.std.proofs.Math.Nat.{mul-le-mul_right}
use Rattle.std.proofs.lemmas.Bool.{cases_order}
use Rattle.naga_arena.specs.Numbers.{largest_u32}
use Rattle.naga_leaves.specs.declared.leaf.Part.{Part}
use Rattle.naga_leaves.specs.Places.{outer_left, part_left, weight}

abbrev times : ℕ
times = suc (suc (suc largest_u32))

weight_positive : (t : ℕ) → 0 < weight t
unfolding weight
weight_positive zero = omega arith
weight_positive (suc t) = let more : 0 < weight t = weight_positive t in omega arith

weight_grows : (u t : ℕ) → u < t → times * weight u ≤ weight t
unfolding weight
weight_grows u zero h = absurd (omega arith)
weight_grows u (suc t) h =
    ⊎_elim (λ (e : u ≡ t). subst (λ (v : ℕ). times * weight u ≤ times * weight v) e (omega arith))
    (λ (o : (u < t) ⊎ (t < u)). ⊎_elim (λ (l : u < t). let more : times * weight u ≤ weight t = weight_grows u t l in let small : weight t ≤ times * weight t = omega arith in omega arith) (λ (l : t < u). absurd (omega arith)) o)
    (cases_order u t)

one_more : (d w W : ℕ) → times * w ≤ W → 0 < w → suc (suc largest_u32) * w + d * W < (d + 1) * W
one_more d w W h positive = omega arith

one_less : (d W : ℕ) → 0 < W → d * W < (d + 1) * W
one_less d W positive = omega arith

module _ (t n : ℕ) (within : n ≤ largest_u32) where
  fewer : suc (suc largest_u32) - n ≡ (suc (suc largest_u32) - (n + 1)) + 1
  fewer = omega arith

  -- to go on to a part takes a step
  pub entering : (u : ℕ) → u < t → part_left u 0 + part_left t (n + 1) < part_left t n
  entering u back =
      subst (λ k. part_left u 0 + part_left t (n + 1) < k * weight t) (sym fewer)
      (one_more (suc (suc largest_u32) - (n + 1)) (weight u) (weight t) (weight_grows u t back) (weight_positive u))

  -- to pass a part takes a step
  pub passing : part_left t (n + 1) < part_left t n
  passing = subst (λ k. part_left t (n + 1) < k * weight t) (sym fewer) (one_less (suc (suc largest_u32) - (n + 1)) (weight t) (weight_positive t))

-- from a later index on no more steps are left
pub later : (t n m : ℕ) → n ≤ m → part_left t m ≤ part_left t n
later t n m le = mul-le-mul_right (weight t) (omega arith)

-- to leave a part takes a step
pub leaving : (t n : ℕ) → n ≤ suc largest_u32 → 0 < part_left t n
leaving t n within =
    let more : suc (suc largest_u32) - n ≡ (suc largest_u32 - n) + 1 = omega arith in
    let first : (suc largest_u32 - n) * weight t < ((suc largest_u32 - n) + 1) * weight t = one_less (suc largest_u32 - n) (weight t) (weight_positive t) in
    subst (λ k. 0 < k * weight t) (sym more) (omega (arith, first))

-- one more part around
pub outer_more : (outer : List Part) (path : List ℕ) (part : Part) (i : ℕ) → length outer ≡ length path
    → outer_left (outer ++ part ∷ []) (path ++ i ∷ []) ≡ outer_left outer path + part_left part.ty (i + 1)
unfolding outer_left
outer_more [] [] part i e = omega arith
outer_more [] (j ∷ path) part i e = absurd (omega arith)
outer_more (p ∷ outer) [] part i e = absurd (omega arith)
outer_more (p ∷ outer) (j ∷ path) part i e =
    let same : length outer ≡ length path = omega arith in
    let rest : outer_left (outer ++ part ∷ []) (path ++ i ∷ []) ≡ outer_left outer path + part_left part.ty (i + 1) = outer_more outer path part i same in
    ap (λ n. part_left p.ty (j + 1) + n) rest ∙ sym (add_assoc (part_left p.ty (j + 1)) (outer_left outer path) (part_left part.ty (i + 1)))
  where
    add_assoc : (a b c : ℕ) → (a + b) + c ≡ a + (b + c)
    add_assoc a b c = omega arith
