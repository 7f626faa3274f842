use Rattle.std.proofs.Common.{rules}
use Rattle.naga_typing.specs.Context.{lists_of}
use Rattle.naga_typing.specs.Index.{IsNotPointer}
use Rattle.naga_typing.proofs.Pointers.{begin, end, follow, nearer, pointer_base_exists}
use Rattle.naga_typing.proofs.index.pointed_form.Goals as goal

pub loop-inner-init : goal.loop-inner-init
loop-inner-init c = begin (lists_of c.args.gctx) _ c.requires.exist

pub index-requires : goal.index-requires
index-requires c = pointer_base_exists (lists_of c.args.gctx) _ _ _ c.loop-inner.invariant.exist c.in-Pointer.is

pub loop-inner-smaller : goal.loop-inner-smaller
loop-inner-smaller c = nearer (lists_of c.args.gctx) c.requires.references c.args.inner.now _ _ _ _ c.in-Pointer.is c.index.ensures

pub loop-inner-preserved : goal.loop-inner-preserved
loop-inner-preserved c = follow (lists_of c.args.gctx) c.requires.references _ _ _ _ _ c.in-Pointer.is c.index.ensures c.loop-inner.invariant

pub returns : goal.returns
returns c =
    let none : IsNotPointer c.loop-inner.inner.now = search rules in record {
      leads = end (lists_of c.args.gctx) _ _ c.loop-inner.invariant none;
      exist = c.loop-inner.invariant.exist;
    }
