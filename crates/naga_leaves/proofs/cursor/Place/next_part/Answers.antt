use Rattle.std.proofs.Common.{◌≡◌, Option, None, MatchOption, sym, subst, ◌∙◌}
use Rattle.naga_leaves.proofs.Places.{leaf_at_none, none_of_type_after, part_there_is}
use Rattle.naga_leaves.specs.Places.{part_of_type}
use Rattle.naga_typing.proofs.Existence.{references_exist}
use Rattle.naga_typing.specs.Context.{lists_of}
use Rattle.naga_typing.specs.Leaves.{elements}
use Rattle.naga_leaves.proofs.cursor.Place.next_part.Goals as goal

-- what is returned if there is no part
nothing : {A : Type 0} (result : Option A) (P : Type 0) (Q : A → Type 0) → result ≡ None → P → MatchOption result P Q
nothing result P Q none h = subst (λ result. MatchOption result P Q) (sym none) h

pub part_at-requires-clause-exist : goal.part_at-requires-clause-exist
part_at-requires-clause-exist c = references_exist (lists_of c.args.gctx.now) c.requires.references _ _ c.index.ensures

pub returns-in_err-part : goal.returns-in_err-part
returns-in_err-part c =
    let none : part_of_type (lists_of c.args.gctx.now) (elements (lists_of c.args.gctx.now) c.args.length) c.args.self.now.part.ty c.args.self.now.next ≡ None =
    part_there_is (lists_of c.args.gctx.now) (elements (lists_of c.args.gctx.now) c.args.length) c.args.self.now.part.ty c.args.self.now.next _ c.index.ensures ∙ sym c.in_err-part.ensures in
    nothing _ _ _ c.from_residual.ensures
    (λ m rest from within. leaf_at_none (lists_of c.args.gctx.now) (elements (lists_of c.args.gctx.now) c.args.length) c.args.self.now.part.ty m rest
    (none_of_type_after (lists_of c.args.gctx.now) (elements (lists_of c.args.gctx.now) c.args.length) c.args.self.now.part.ty c.args.self.now.next m none from))
