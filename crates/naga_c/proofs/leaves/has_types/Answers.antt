use Rattle.std.proofs.Common.{ℕ, ◌<◌, List, arith, get_or, length, refl, subst, sym}
use Rattle.std.specs.List.{All}
use Rattle.std.proofs.lemmas.List.{take_all, take_more}
use Rattle.std.proofs.lemmas.List.Elements.{All-push}
use Rattle.naga_c.proofs.leaves.has_types.Goals as goal

pub returns-then-ty-count-clause-all : goal.returns-then-ty-count-clause-all
returns-then-ty-count-clause-all c = (
  λ h. let none : ⊥ = cc in absurd none,
  λ h. let within : get_or c.args.types.now c.loop-ty.ty-index 0 < length c.args.«module».now.types = h c.loop-ty.ty-index 0 (omega arith) in absurd (omega arith),
)

pub loop-ty-preserved : goal.loop-ty-preserved
loop-ty-preserved c =
    let P : ℕ → Type 0 = λ ty. ty < length c.args.«module».now.types in
    let types = c.args.types.now in
    let i = c.loop-ty.ty-index in
    let within : get_or types i 0 < length c.args.«module».now.types = omega arith in
    subst (λ (ts : List ℕ). All P ts) (sym (take_more types i 0 c.loop-ty-test.true)) (All-push P _ (get_or types i 0) c.loop-ty.invariant within)

pub returns-clause-all : goal.returns-clause-all
returns-clause-all c = (
  λ _. subst (λ (ts : List ℕ). All (λ (ty : ℕ). ty < length c.args.«module».now.types) ts) (take_all c.loop-ty.ty-index c.args.types.now c.loop-ty-test.false) c.loop-ty.invariant,
  λ _. refl,
)
