use Rattle.std.proofs.Common.{refl}
use Rattle.naga_c.specs.Declarations.{told}
use Rattle.naga_c.proofs.declarations.tell_expression.Goals as goal

pub returns : goal.returns
returns c = told _ _ c.in-Expression.is c.refused_at.ensures refl
