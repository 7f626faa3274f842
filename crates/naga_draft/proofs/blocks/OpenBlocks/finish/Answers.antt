-- A body whose blocks are not all closed is not whole.
use Rattle.std.proofs.Common.{◌≡◌, length, refl, sym, ap, ◌∙◌, arith}
use Rattle.std.proofs.lemmas.Bool.Decides.{nat_tests}
use Rattle.std.proofs.lemmas.List.{length-reverse}
use Rattle.naga_draft.proofs.MarkRuns.{length-kinds, open-refuses}
use Rattle.naga_draft.specs.OpenBlocks.{outer_of}
use Rattle.naga_draft.proofs.blocks.OpenBlocks.finish.Goals as goal

pub returns-clause-refused : goal.returns-clause-refused
returns-clause-refused c = λ marks read. (
  refl,
  λ b is.
      let none : length c.args.self.outer.items ≡ 0 =
      sym (length-reverse c.args.self.outer.items)
      ∙ sym (length-kinds (outer_of c.args.self))
      ∙ ap length (open-refuses marks (outer_of c.args.self) c.args.self.block read b is) in
      absurd (grind (arith, nat_tests, none, c.args.self.outer.ok.0)),
)
