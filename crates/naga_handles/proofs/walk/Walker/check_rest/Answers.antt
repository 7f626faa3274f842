use Rattle.std.proofs.Common.{◌≡◌, ◌∙◌, ◌≤◌, Some, ap, length, sym, rules}
use Rattle.naga_ir.specs.Ranks.{reach}
use Rattle.naga_handles.specs.declared.walk.Walker.{Walker}
use Rattle.naga_handles.proofs.OrderLemmas.{can_be_ordered}
use Rattle.naga_handles.proofs.VisitLemmas.{missing_type}
use Rattle.naga_handles.proofs.walk.Walker.check_rest.Goals as goal
use Rattle.naga_handles.proofs.walk.Walker.check_rest.Goals.{in-Some+in_ok-check_exists, in_default}

pub returns-in_err-check_exists-clause-refused : goal.returns-in_err-check_exists-clause-refused
returns-in_err-check_exists-clause-refused c =
    let m = c.args.module.now in
    let w = c.args.self.now in
    let named : w.greatest ≡ Some c.in-Some.greatest = sym (ap (λ (v : Walker). v.greatest) c.in_ok-check_visited.ensures.right.1) ∙ c.in-Some.is in
    let fault = missing_type m w c.in-Some.greatest c.requires named in
    search rules

pub returns-clause-accepted : goal.returns-clause-accepted
returns-clause-accepted c =
    let m = c.args.module.now in
    let w = c.args.self.now in
    let all : length m.global_expressions ≤ w.visited = search rules in
    let same = ap (λ (v : Walker). v.greatest) c.in_ok-check_visited.ensures.right.1 in
    let there : reach w.greatest ≤ length m.types = elim c.match-self.branch [ in-Some+in_ok-check_exists k ↦ search rules | in_default k ↦ search rules ] in
    can_be_ordered m w c.requires all there
