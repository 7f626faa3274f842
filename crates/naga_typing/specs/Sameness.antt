-- Whether two types are the same, as a bool.
use Rattle.std.specs.Prelude.{◌==◌, ◌&&◌, ◌||◌, not, ℕ, Bool as Boolean, false, List, Option, Some, None}
use Rattle.naga_ir.specs.TypeWords.{is_struct}
use Rattle.naga_ir.specs.contracts.types.TypeInnerPartialEq.TheImpl as of_inner
use Rattle.naga_ir.specs.declared.types.«Type».{«Type»}
use Rattle.naga_ir.specs.declared.types.TypeInner.{TypeInner}
use Rattle.naga_typing.specs.Resolutions.{canonical, handle_of, inner_in}
use Rattle.naga_typing.specs.declared.typifier.TypeResolution.{TypeResolution}

-- whether there are two handles, and they are equal
abbrev pub is_one_handle : Option ℕ → Option ℕ → Boolean
is_one_handle (Some t) (Some u) = t == u
is_one_handle (Some t) None = false
is_one_handle None _ = false

-- whether two types are the same: structs if they have the same handle, other types if they
-- are equal as they are compared
abbrev pub are_same_inners : List «Type» → Boolean → TypeInner → TypeInner → Boolean
are_same_inners types one_handle x y =
    is_struct x && (is_struct y && one_handle)
    || not (is_struct x) && (not (is_struct y) && of_inner.ghosts.eq (canonical types x) (canonical types y))

-- whether there are two types, and they are the same
abbrev pub are_same_found : List «Type» → Boolean → Option TypeInner → Option TypeInner → Boolean
are_same_found types one_handle (Some x) (Some y) = are_same_inners types one_handle x y
are_same_found types one_handle (Some x) None = false
are_same_found types one_handle None _ = false

-- whether two resolutions are of the same type
unfoldable pub are_same : List «Type» → TypeResolution → TypeResolution → Boolean
are_same types lhs rhs =
    are_same_found types (is_one_handle (handle_of lhs) (handle_of rhs)) (inner_in types lhs) (inner_in types rhs)
