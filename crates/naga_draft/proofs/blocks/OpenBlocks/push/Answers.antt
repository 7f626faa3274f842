use Rattle.std.proofs.Common.{◌≡◌, true, refl, rules}
use Rattle.naga_draft.proofs.BlockLemmas.{push-adds}
use Rattle.naga_draft.specs.OpenBlocks.{kinds, outer_of, takes}
use Rattle.naga_draft.proofs.blocks.OpenBlocks.push.Goals as goal

pub returns-clause-added : goal.returns-clause-added
returns-clause-added c = λ plain.
    let t : takes (kinds (outer_of c.args.self.now)) ≡ true = search rules in
    push-adds c.args.self.now (record c.args.self.now { block = c.push.new.self }) c.args.statement plain t refl c.in_ok-push.ensures.pushed
