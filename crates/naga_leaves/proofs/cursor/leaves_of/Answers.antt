use Rattle.std.proofs.Common.{◌<◌, [], length, refl, sym, subst, arith}
use Rattle.naga_ir.specs.Handles.{GlobalReferencesOk}
use Rattle.naga_ir.specs.ItemReferences.{GlobalLists}
use Rattle.naga_leaves.proofs.HasLeaves.{nothing_known}
use Rattle.naga_leaves.proofs.Steps.{place_by}
use Rattle.naga_leaves.specs.declared.cursor.Place.{Place}
use Rattle.naga_leaves.specs.Places.{itself}
use Rattle.naga_typing.specs.Context.{lists_of}
use Rattle.naga_typing.specs.Leaves.{elements}
use Rattle.naga_leaves.proofs.cursor.leaves_of.Goals as goal

pub returns-clause-cursor : goal.returns-clause-cursor
returns-clause-cursor c =
    let place : Place = record { ty = c.args.ty; part = record { ty = c.args.ty; first = 0 }; next = 0; outer = c.new.result; path = c.new-2.result } in
    let lists = sym c.to_ctx.ensures.lists in
    record {
      references = subst GlobalReferencesOk lists c.requires.references;
      place =
          place_by (lists_of c.to_ctx.result) (elements (lists_of c.to_ctx.result) c.args.length) place c.args.ty [] [] (record { ty = c.args.ty; first = 0 }) 0 refl c.new.ensures.items c.new-2.ensures.items refl refl
          (subst (λ (g : GlobalLists). c.args.ty < length g.types) lists c.requires.exists) itself (omega arith);
      known = nothing_known (lists_of c.to_ctx.result) (elements (lists_of c.to_ctx.result) c.args.length) c.new-3.result.items c.new-3.ensures;
      whole = λ e. (c.new-2.ensures.items, refl);
    }
