-- The words that stand for values: a row is a word and its value.
use Rattle.std.specs.Prelude.{ℕ, Bool as Boolean, true, false, List, [], ◌∷◌, Option, Some, None, codes, bytes_eq, if◌then◌else◌}
use Rattle.naga_ir.specs.declared.expression.BinaryOperator.{BinaryOperator}
use Rattle.naga_ir.specs.declared.expression.BinaryOperator.TheVariants as binary
use Rattle.naga_ir.specs.declared.expression.UnaryOperator.{UnaryOperator}
use Rattle.naga_ir.specs.declared.expression.UnaryOperator.TheVariants as unary
use Rattle.naga_ir.specs.declared.storage_format.StorageFormat.TheVariants.{R8Unorm}
use Rattle.naga_ir.specs.declared.types.AddressSpace.{AddressSpace}
use Rattle.naga_ir.specs.declared.types.AddressSpace.TheVariants as space
use Rattle.naga_ir.specs.declared.types.CooperativeRole.{CooperativeRole}
use Rattle.naga_ir.specs.declared.types.CooperativeRole.TheVariants as role
use Rattle.naga_ir.specs.declared.types.ImageClass.{ImageClass}
use Rattle.naga_ir.specs.declared.types.ImageClass.TheVariants as class
use Rattle.naga_ir.specs.declared.types.ImageDimension.{ImageDimension}
use Rattle.naga_ir.specs.declared.types.ImageDimension.TheVariants.{D1, D2, D3, Cube}
use Rattle.naga_ir.specs.declared.types.ScalarKind.{ScalarKind}
use Rattle.naga_ir.specs.declared.types.ScalarKind.TheVariants.{Sint, Uint, Float, Bool, AbstractInt, AbstractFloat}

-- the value of a word in a table, if the word is there: the value of the first row with the word
abbrev pub chosen : {A : Type 0} → List (List ℕ × A) → List ℕ → Option A
chosen [] w = None
chosen (row ∷ table) w = if bytes_eq w row.0 then Some row.1 else chosen table w

-- the kinds of scalars
abbrev pub kinds : List (List ℕ × ScalarKind)
kinds =
    (codes "sint", Sint) ∷ (codes "uint", Uint) ∷ (codes "float", Float) ∷ (codes "bool", Bool) ∷
    (codes "aint", AbstractInt) ∷ (codes "afloat", AbstractFloat) ∷ []

-- the bools
abbrev pub bools : List (List ℕ × Boolean)
bools = (codes "0", false) ∷ (codes "1", true) ∷ []

-- the operands that cooperative matrices are
abbrev pub roles : List (List ℕ × CooperativeRole)
roles = (codes "A", role.A) ∷ (codes "B", role.B) ∷ (codes "C", role.C) ∷ []

-- the address spaces; the storage space can be read and written
abbrev pub spaces : List (List ℕ × AddressSpace)
spaces =
    (codes "function", space.Function) ∷
    (codes "private", space.Private) ∷
    (codes "workgroup", space.WorkGroup) ∷
    (codes "uniform", space.Uniform) ∷
    (codes "storage", space.Storage (record { load = true; store = true; atomic = false })) ∷
    (codes "handle", space.Handle) ∷
    (codes "immediate", space.Immediate) ∷
    (codes "taskpayload", space.TaskPayload) ∷
    (codes "raypayload", space.RayPayload) ∷
    (codes "incomingraypayload", space.IncomingRayPayload) ∷ []

-- the dimensions of images
abbrev pub dimensions : List (List ℕ × ImageDimension)
dimensions = (codes "1", D1) ∷ (codes "2", D2) ∷ (codes "3", D3) ∷ (codes "cube", Cube) ∷ []

-- the classes of images; a storage image has the format `R8Unorm` and all accesses
abbrev pub classes : List (List ℕ × ImageClass)
classes =
    (codes "float", class.Sampled Float false) ∷
    (codes "floatms", class.Sampled Float true) ∷
    (codes "sint", class.Sampled Sint false) ∷
    (codes "uint", class.Sampled Uint false) ∷
    (codes "depth", class.Depth false) ∷
    (codes "depthms", class.Depth true) ∷
    (codes "storage", class.Storage R8Unorm (record { load = true; store = true; atomic = true })) ∷
    (codes "external", class.External) ∷ []

-- the operators on one value
abbrev pub unary_operators : List (List ℕ × UnaryOperator)
unary_operators = (codes "negate", unary.Negate) ∷ (codes "not", unary.LogicalNot) ∷ (codes "bitnot", unary.BitwiseNot) ∷ []

-- the operators on two values
abbrev pub binary_operators : List (List ℕ × BinaryOperator)
binary_operators =
    (codes "add", binary.Add) ∷ (codes "sub", binary.Subtract) ∷ (codes "mul", binary.Multiply) ∷
    (codes "div", binary.Divide) ∷ (codes "mod", binary.Modulo) ∷ (codes "eq", binary.Equal) ∷
    (codes "ne", binary.NotEqual) ∷ (codes "lt", binary.Less) ∷ (codes "le", binary.LessEqual) ∷
    (codes "gt", binary.Greater) ∷ (codes "ge", binary.GreaterEqual) ∷ (codes "and", binary.And) ∷
    (codes "or", binary.InclusiveOr) ∷ (codes "xor", binary.ExclusiveOr) ∷ (codes "land", binary.LogicalAnd) ∷
    (codes "lor", binary.LogicalOr) ∷ (codes "shl", binary.ShiftLeft) ∷ (codes "shr", binary.ShiftRight) ∷ []
