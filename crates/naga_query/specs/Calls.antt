-- What a mathematical function is called on while its overloads are tried.
use Rattle.std.specs.Prelude.{◌≡◌, ◌<◌, ℕ, List, All}
use Rattle.naga_ir.specs.declared.reference.Reference.{Reference}
use Rattle.naga_ir.specs.declared.reference.Reference.TheVariants as to

-- these references are to expressions among the first `count`, and to nothing else
abbrev pub AreExpressionsBelow : ℕ → List Reference → Type 0
AreExpressionsBelow count references = All (λ r. (e : ℕ) × (r ≡ to.Expression e) × (e < count)) references
