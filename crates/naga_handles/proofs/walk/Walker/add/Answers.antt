use Rattle.std.proofs.Common.{◌≡◌, ◌+◌, ℕ, List, Option, max, sym, subst, rules, arith, vec_capacity}
use Rattle.naga_ir.specs.Ranks.{reach}
use Rattle.naga_handles.specs.steps.VisitState.{IsGreatest, IsTable}
use Rattle.naga_handles.specs.declared.walk.Walker.{Walker}
use Rattle.naga_handles.proofs.VisitLemmas.{greatest_more, table_full, table_more}
use Rattle.naga_handles.proofs.walk.Walker.add.Goals as goal
use Rattle.naga_handles.proofs.walk.Walker.add.Goals.{then-len-capacity, else-len-capacity}

pub returns-clause-names : goal.returns-clause-names
returns-clause-names c = λ g at was.
    let old = c.args.self.now in
    let named = c.named_type.result in
    let entry = c.max-self.result in
    let most : reach entry ≡ max (reach old.greatest) (reach named) = search rules in
    let greatest = greatest_more g old.visited c.args.expression.now old.greatest named entry at (sym c.named_type.ensures) was.0 most in
    elim c.if-len-capacity.branch [
      | then-len-capacity w ↦
          let added = table_more g old.table.items old.visited (vec_capacity old.table) entry was.1 (omega (arith, w.if-len-capacity)) greatest in
          let entries = subst (λ (items : List (Option ℕ)). IsTable g items (old.visited + 1) (vec_capacity old.table)) (sym w.push_reserved.ensures.items) added in
          let table = subst (IsTable g w.push_reserved.new.self.items (old.visited + 1)) (sym w.push_reserved.ensures.capacity) entries in
          subst (λ (v : Walker). IsGreatest g (v.visited + 1) v.greatest × IsTable g v.table.items (v.visited + 1) (vec_capacity v.table)) (sym w.self-is) (greatest, table)
      | else-len-capacity w ↦
          let table = table_full g old.table.items old.visited (vec_capacity old.table) was.1 (omega (arith, w.if-len-capacity)) in
          subst (λ (v : Walker). IsGreatest g (v.visited + 1) v.greatest × IsTable g v.table.items (v.visited + 1) (vec_capacity v.table)) (sym w.self-is) (greatest, table)
    ]
