use Rattle.std.proofs.Common.{◌≡◌, ◌<◌, ℕ, true, Some}
use Rattle.std.specs.List.{slice_get}
use Rattle.naga_ir.specs.declared.types.StructMember.{StructMember}
use Rattle.naga_leaves.proofs.has_leaves.any_member_has_leaves.Given as goal

-- no member so far has a type that has a leaf
abbrev pub invariant-loop-member : goal.invariant-loop-member
invariant-loop-member l = (k : ℕ) (m : StructMember) → k < l.member-index → slice_get l.members k ≡ Some m → slice_get l.has_leaves.items m.ty ≡ Some true → ⊥
