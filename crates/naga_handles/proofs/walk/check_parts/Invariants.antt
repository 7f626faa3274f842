use Rattle.naga_ir.specs.Parts.{parts}
use Rattle.naga_handles.proofs.PlacesBefore.{Below}
use Rattle.naga_handles.proofs.walk.check_parts.Given as goal

-- the parts so far precede the type
abbrev pub invariant-loop-part : goal.invariant-loop-part
invariant-loop-part l = Below l.handle (parts l.inner) l.part-iterator
