use Rattle.std.proofs.Common.{ℕ, refl, subst, sym}
use Rattle.naga_c.specs.Slots.{AreSlotsOf, none, written}
use Rattle.naga_c.proofs.slots.report_slots.Goals as goal

pub returns-in-Ok : goal.returns-in-Ok
returns-in-Ok c =
    let m = c.args.accepted.now in
    let slots = subst (λ (n : ℕ). AreSlotsOf m.subject.«module» c.args.ty c.args.offset (record { 0 = n })) (sym c.to_raw.ensures) c.in-Ok.ensures.found.1 in
    written m.validator.infos c.requires.accepted.lists c.requires.accepted.accepted c.in-Ok.ensures.found.0 slots c.counts_of-outcome.ensures refl

pub returns-in-Err : goal.returns-in-Err
returns-in-Err c =
    none c.args.accepted.now.validator.infos c.requires.accepted.lists c.requires.accepted.accepted c.in-Err.ensures.none c.requires.empty c.counts_of-outcome.ensures
