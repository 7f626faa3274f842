-- Steps along the path of a type.
use Rattle.std.proofs.Common.{◌≡◌, ◌+◌, ℕ, zero, suc, List, subst, arith}
use Rattle.naga_ir.specs.declared.types.«Type».{«Type»}
use Rattle.naga_ir.specs.steps.TypePaths.{Leads, next_bits, link_at, link_of}

module _ (links : List ℕ) (ty : «Type») (depth bits link : ℕ) where
  -- from a link that leads nowhere no path goes on
  pub ends_here : (steps k : ℕ) → link_at links link ≡ 0 → Leads links ty depth bits link steps k → ⊥
  ends_here zero k free leads = absurd (omega (arith, free, leads))
  ends_here (suc steps) k free leads = absurd (omega (arith, free, leads.1))

  -- a path to another node goes on at the next link
  pub goes_on : (node steps k : ℕ) → link_at links link ≡ suc node → (node ≡ k → ⊥) → Leads links ty depth bits link steps k
      → (rest : ℕ) × Leads links ty (depth + 1) (next_bits ty depth bits) (link_of node bits) rest k
  goes_on node zero k at apart leads = absurd (apart (omega (arith, at, leads)))
  goes_on node (suc steps) k at apart leads =
      let same : leads.0 ≡ node = omega (arith, at, leads.1) in
      (steps, subst (λ n. Leads links ty (depth + 1) (next_bits ty depth bits) (link_of n bits) steps k) same leads.2)
