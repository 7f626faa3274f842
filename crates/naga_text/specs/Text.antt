-- What a text says.
use Rattle.std.specs.List.{AllZip}
use Rattle.std.specs.Prelude.{◌≡◌, ◌==◌, ℕ, ◌<◌, ◌≤◌, Bool, true, false, not, List, [], ◌∷◌, Option, Some, None, length, map, filter, filter_map, slice_get, take, unwrap_or}
use Rattle.naga_arena.specs.Numbers.{largest_u32}
use Rattle.naga_flags.specs.declared.flags.Capabilities.{Capabilities as CapabilitySet}
use Rattle.naga_flags.specs.declared.flags.ValidationFlags.{ValidationFlags}
use Rattle.naga_ir.specs.declared.expression.Expression.{Expression as ExpressionType}
use Rattle.naga_ir.specs.declared.ir.Constant.{Constant as ConstantType}
use Rattle.naga_ir.specs.declared.ir.Module.{Module}
use Rattle.naga_ir.specs.declared.ir.Override.{Override as OverrideType}
use Rattle.naga_ir.specs.Distinct.{AllDistinct}
use Rattle.naga_ir.specs.declared.types.«Type».{«Type»}
use Rattle.naga_text.specs.Bytes.{hash}
use Rattle.naga_text.specs.Forms.{IsForm}
use Rattle.naga_text.specs.Words.{words_of}
use Rattle.naga_text.specs.declared.line.FixedLine.TheVariants.{Flags, Capabilities, Resolved, Constant, Override, Doc}
use Rattle.naga_text.specs.declared.line.Line.{Line}
use Rattle.naga_text.specs.declared.line.Line.TheVariants.{Type_, Expression, Fixed}
use Rattle.naga_text.specs.declared.text.Contents.{Contents}
use Rattle.naga_text.specs.declared.text.TextError.{TextError}
use Rattle.naga_text.specs.declared.text.TextError.TheVariants as error

-- a line is neither empty nor a comment
abbrev pub has_content : List ℕ → Bool
has_content [] = false
has_content (c ∷ cs) = not (c == hash)

-- the flags that a line sets
abbrev pub flags_in : Line → Option ValidationFlags
flags_in (Fixed (Flags flags)) = Some flags
flags_in _ = None

-- the capabilities that a line sets
abbrev pub capabilities_in : Line → Option CapabilitySet
capabilities_in (Fixed (Capabilities capabilities)) = Some capabilities
capabilities_in _ = None

-- that overrides are resolved, if a line says so
abbrev pub resolved_in : Line → Option Bool
resolved_in (Fixed Resolved) = Some true
resolved_in _ = None

-- the type that a line describes, which has no name
abbrev pub type_in : Line → Option «Type»
type_in (Type_ inner) = Some (record { name = None; inner = inner })
type_in _ = None

-- the expression that a line describes
abbrev pub expression_in : Line → Option ExpressionType
expression_in (Expression expression) = Some expression
expression_in _ = None

-- the constant that a line describes, which has no name
abbrev pub constant_in : Line → Option ConstantType
constant_in (Fixed (Constant ty init)) = Some (record { name = None; ty = ty; init = init })
constant_in _ = None

-- the override that a line describes, which has no name
abbrev pub override_in : Line → Option OverrideType
override_in (Fixed (Override ty init id)) = Some (record { name = None; id = id; ty = ty; init = init })
override_in _ = None

-- the comment that a line describes: the type and the member that it is on, and no texts
abbrev pub comment_in : Line → Option ((ℕ × ℕ) × List (List ℕ))
comment_in (Fixed (Doc ty member)) = Some ((ty, member), [])
comment_in _ = None

-- the first value to which lines set a setting
abbrev pub first_in : {A : Type 0} → (Line → Option A) → List Line → Option A
first_in setting lines = slice_get (filter_map setting lines) 0

-- the module of what lines describe, in their order, and nothing else
abbrev pub module_of : List Line → Module
module_of lines = record {
  types = filter_map type_in lines;
  special_types = record { ray_desc = None; ray_intersection = None; ray_vertex_return = None; others = [] };
  constants = filter_map constant_in lines;
  overrides = filter_map override_in lines;
  global_variables = [];
  global_expressions = filter_map expression_in lines;
  functions = [];
  entry_points = [];
  diagnostic_filters = [];
  diagnostic_filter_leaf = None;
  doc_comments = record { «module» = []; types = []; struct_members = filter_map comment_in lines; entry_points = []; functions = []; constants = []; global_variables = [] };
}

-- what lines say together: the module that they describe, and each setting that one of them sets
abbrev pub contents_of : List Line → Contents
contents_of lines = record {
  «module» = module_of lines;
  flags = first_in flags_in lines;
  capabilities = first_in capabilities_in lines;
  resolved = unwrap_or (first_in resolved_in lines) false;
}

-- lines can make one text: each setting once at most, each type once, and as many items of
-- a kind as an arena has room for
pub record AreConsistent (lines : List Line) : Type 0 where
  pub flags : length (filter_map flags_in lines) ≤ 1
  pub capabilities : length (filter_map capabilities_in lines) ≤ 1
  pub resolved : length (filter_map resolved_in lines) ≤ 1
  pub types : AllDistinct (filter_map type_in lines)
  pub room_for_types : length (filter_map type_in lines) ≤ largest_u32
  pub room_for_expressions : length (filter_map expression_in lines) ≤ largest_u32
  pub room_for_constants : length (filter_map constant_in lines) ≤ largest_u32
  pub room_for_overrides : length (filter_map override_in lines) ≤ largest_u32

-- the words of the lines with content have the forms of these lines
abbrev pub AreForms : List (List ℕ) → List Line → Type 0
AreForms lines said = AllZip IsForm (map words_of (filter has_content lines)) said

-- the lines with content have forms that can make one text, and the contents are what those say together
pub record IsText (lines : List (List ℕ)) (contents : Contents) : Type 0 where
  pub said : List Line
  pub forms : AreForms lines said
  pub consistent : AreConsistent said
  pub contents_are : contents ≡ contents_of said

-- the lines are a readable text
abbrev pub IsReadable : List (List ℕ) → Type 0
IsReadable lines = (contents : Contents) × IsText lines contents

-- `n` is the least number of first lines that by themselves are not a readable text
pub record IsFirstUnreadable (lines : List (List ℕ)) (n : ℕ) : Type 0 where
  pub unreadable : ¬ (IsReadable (take n lines))
  pub readable_before : (k : ℕ) → k < n → IsReadable (take k lines)

-- the error names a line of whose number this holds
abbrev pub NamesLine : TextError → (ℕ → Type 0) → Type 0
NamesLine (error.Line n) P = P n
NamesLine error.OutOfMemory P = ⊥
