use Rattle.std.proofs.Common.{◌≡◌, ◌+◌, ℕ, length, subst, arith}
use Rattle.naga_leaves.proofs.Steps.{end_is}
use Rattle.naga_leaves.specs.declared.leaf.Part.{Part}
use Rattle.naga_leaves.specs.steps.Steps.{IsIndexAfter}
use Rattle.naga_typing.specs.Context.{lists_of}
use Rattle.naga_leaves.proofs.cursor.Place.skip.Goals as goal

pub returns : goal.returns
returns c =
    let many : length c.args.self.now.path.items ≡ c.in-Some.last + 1 = omega arith in
    let as_many : length c.args.self.now.outer.items ≡ c.in-Some.last + 1 = omega arith in
    record {
      next = c.index_after-next.result;
      after = λ e outer around path last outer_is path_is.
          subst (λ (i : ℕ). IsIndexAfter (lists_of c.args.gctx.now) e around.ty i c.index_after-next.result) (end_is c.args.self.now.path.items path c.in-Some.last c.index-2.result.now last many c.index-2.ensures path_is)
          (subst (λ (p : Part). IsIndexAfter (lists_of c.args.gctx.now) e p.ty c.index-2.result.now c.index_after-next.result) (end_is c.args.self.now.outer.items outer c.in-Some.last c.index.result.now around as_many c.index.ensures outer_is)
          (c.index_after-next.ensures e));
      leaves = c.leave.ensures;
    }
