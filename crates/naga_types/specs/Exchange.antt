-- The structs that atomic compare-exchanges return.
use Rattle.std.specs.Prelude.{◌==◌, ◌&&◌, ℕ, Bool as Boolean, true, false, List, [], ◌∷◌, Option, Some, None, bytes_eq, codes, slice_get}
use Rattle.naga_ir.specs.declared.types.«Type».{«Type»}
use Rattle.naga_ir.specs.declared.types.ScalarKind.{ScalarKind}
use Rattle.naga_ir.specs.declared.types.ScalarKind.TheVariants.{Sint, Uint, Float, Bool, AbstractInt, AbstractFloat}
use Rattle.naga_ir.specs.declared.types.StructMember.{StructMember}
use Rattle.naga_ir.specs.declared.types.TypeInner.{TypeInner}
use Rattle.naga_ir.specs.declared.types.TypeInner.TheVariants as form
use Rattle.naga_flags.specs.Width.{bool_width}
use Rattle.naga_types.specs.Checks.{when}
use Rattle.naga_types.specs.Surroundings.{form_in}

-- an optional name is this one
abbrev pub is_name : List ℕ → Option (List ℕ) → Boolean
is_name name (Some own) = bytes_eq own name
is_name name None = false

-- a member has this name
abbrev pub is_named : List ℕ → StructMember → Boolean
is_named name m = is_name name m.name

-- `kind` is `Bool`
abbrev pub is_bool : ScalarKind → Boolean
is_bool Bool = true
is_bool Sint = false
is_bool Uint = false
is_bool Float = false
is_bool AbstractInt = false
is_bool AbstractFloat = false

-- values of a type are bools, of one byte
abbrev pub is_bool_type : Option TypeInner → Boolean
is_bool_type (Some (form.Scalar scalar)) = is_bool scalar.kind && scalar.width == bool_width
is_bool_type _ = false

-- the type of the old value, if the members are `old_value` and a bool `exchanged`
abbrev pub old_value_form : List «Type» → List StructMember → Option TypeInner
old_value_form types (old ∷ flag ∷ []) =
    when (is_named (codes "old_value") old
    && (is_named (codes "exchanged") flag && is_bool_type (form_in (slice_get types flag.ty))))
    (form_in (slice_get types old.ty))
old_value_form types _ = None
