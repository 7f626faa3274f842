-- Lists with the room that they have.
use Rattle.std.specs.Prelude.{ℕ, List}

-- values, and how many there is room for without more memory
pub record WithRoom (V : Type 0) : Type 0 where
  pub items : List V
  pub room : ℕ
