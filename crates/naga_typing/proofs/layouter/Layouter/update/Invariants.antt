use Rattle.naga_typing.specs.Context.{lists_of}
use Rattle.naga_typing.proofs.LayoutPass.{LaidOut}
use Rattle.naga_typing.proofs.layouter.Layouter.update.Given as goal

-- the types so far have the layouts so far
abbrev pub invariant-loop-ty : goal.invariant-loop-ty
invariant-loop-ty l = LaidOut (lists_of l.gctx) l.self l.ty-iterator
