-- Numbers of components and their alignment.
use Rattle.std.specs.Prelude.{ℕ, Bool as Boolean, true, false}
use Rattle.naga_ir.specs.declared.types.ScalarKind.{ScalarKind}
use Rattle.naga_ir.specs.declared.types.ScalarKind.TheVariants.{Bool}
use Rattle.naga_ir.specs.declared.types.CooperativeSize.{CooperativeSize}
use Rattle.naga_ir.specs.declared.types.CooperativeSize.TheVariants.{Eight, Sixteen}
use Rattle.naga_ir.specs.declared.types.VectorSize.{VectorSize}
use Rattle.naga_ir.specs.declared.types.VectorSize.TheVariants.{Bi, Tri, Quad}

-- `kind` is a kind of numbers, that is not `Bool`
abbrev pub is_numeric : ScalarKind → Boolean
is_numeric Bool = false
is_numeric _ = true

-- how many components a vector has
abbrev pub components : VectorSize → ℕ
components Bi = 2
components Tri = 3
components Quad = 4

-- how many columns or rows a cooperative matrix has
abbrev pub cooperative_components : CooperativeSize → ℕ
cooperative_components Eight = 8
cooperative_components Sixteen = 16

-- to how many components a vector is aligned
abbrev pub vector_alignment : VectorSize → ℕ
vector_alignment Bi = 2
vector_alignment Tri = 4
vector_alignment Quad = 4
