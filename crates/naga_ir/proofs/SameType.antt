-- `==` of two types decides equality of the values that contracts see.
use Rattle.std.proofs.Common.{◌≡◌, true, subst}
use Rattle.std.specs.Bool.{Decides}
use Rattle.std.specs.Cmp.{first_so, second_so}
use Rattle.naga_ir.specs.declared.types.«Type».{«Type»}
use Rattle.naga_ir.specs.contracts.types.TypePartialEq.TheImpl.{ghosts}
use Rattle.naga_ir.specs.contracts.types.TypeEq.TheImpl.Laws as type_laws
use Rattle.naga_arena.specs.contracts.text.TextPartialEq.TheImpl as text
use Rattle.std.specs.Option.{option_eq}
use Rattle.naga_ir.proofs.SameInner.{inner_same, name_same}

pub type_same : (a b : «Type») → ghosts.eq a b ≡ true → a ≡ b
type_same a b h =
    let n = name_same a.name b.name (first_so _ _ h) in
    let i = inner_same a.inner b.inner (second_so (option_eq text.ghosts.eq a.name b.name) _ h) in
    λ j. record { name = n j; inner = i j }

pub type_decides : (a b : «Type») → Decides (ghosts.eq a b) (a ≡ b)
type_decides a b = (type_same a b, λ e. subst (λ (x : «Type»). ghosts.eq a x ≡ true) e (type_laws.laws-law.refl a))
