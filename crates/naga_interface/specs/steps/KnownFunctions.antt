-- What is known of the expressions of a function while its declarations are validated.
use Rattle.std.specs.Prelude.{◌≡◌, List, IsTrue, length}
use Rattle.naga_interface.specs.Functions.{has_initialisers}
use Rattle.naga_ir.specs.declared.ir.Function.{Function}
use Rattle.naga_typing.specs.declared.expression_kind.ExpressionKind.{ExpressionKind}

-- `kinds` has a kind for each expression of the function `f`, if a local variable has an initialiser
abbrev pub HaveKinds : Function → List ExpressionKind → Type 0
HaveKinds f kinds = IsTrue (has_initialisers f) → length kinds ≡ length f.expressions
