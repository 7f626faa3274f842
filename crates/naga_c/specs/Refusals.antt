-- Which item a refusal is about, and why, in numbers.
use Rattle.std.specs.Prelude.{ℕ, List, [], ◌∷◌}
use Rattle.naga_handles.specs.declared.error.InvalidHandleError.{InvalidHandleError}
use Rattle.naga_handles.specs.declared.error.InvalidHandleError.TheVariants.{BadHandle, ForwardDependency, BadRange}
use Rattle.naga_valid.specs.declared.error.ValidationError.{ValidationError}
use Rattle.naga_valid.specs.declared.error.ValidationError.TheVariants.{InvalidHandle, Layouter, Type_, ConstExpression, ArraySizeError, Constant, Override, Corrupted, OutOfMemory}
use Rattle.naga_c.specs.Codes.{const_expression_error_cause, const_expression_error_code, const_expression_error_second_cause, constant_error_code, handle_error_code, layout_error_code, override_error_cause, override_error_code, override_error_second_cause, override_error_third_cause, type_error_cause, type_error_code}
use Rattle.naga_c.specs.Kinds.{item_kind}
use Rattle.naga_c.specs.Values.{const_expression_error_values, counted, handle_error_values, override_error_values, type_error_values}
use Rattle.naga_c.specs.declared.refusal.Refusal.{Refusal}

-- the index that an error of handles is about: what is dangling, what depends on a later item, or the start of a range
abbrev pub handle_error_index : InvalidHandleError → ℕ
handle_error_index (BadHandle e) = e.index
handle_error_index (ForwardDependency e) = e.subject
handle_error_index (BadRange e) = e.start

-- the kind of items that this index is of
abbrev pub handle_error_kind : InvalidHandleError → ℕ
handle_error_kind (BadHandle e) = item_kind e.kind
handle_error_kind (ForwardDependency e) = item_kind e.subject_kind
handle_error_kind (BadRange e) = item_kind e.kind

-- the stage, the kind of the item and its index, the error with the errors in it, and what these hold
abbrev pub refusal : ℕ → ℕ → ℕ → List ℕ → List ℕ → Refusal
refusal stage kind index errors values = record {
  stage = stage;
  kind = kind;
  index = index;
  errors = errors;
  values = counted values;
}

-- the refusal of a module with an error; the last three are never returned, or say nothing of the module
abbrev pub refusal_of : ValidationError → Refusal
refusal_of (InvalidHandle e) =
    refusal 1 (handle_error_kind e) (handle_error_index e) (handle_error_code e ∷ 0 ∷ 0 ∷ 0 ∷ [])
    (handle_error_values e)
refusal_of (Layouter e) = refusal 2 1 e.ty (layout_error_code e.inner ∷ 0 ∷ 0 ∷ 0 ∷ []) []
refusal_of (Type_ handle name source) =
    refusal 3 1 handle (type_error_code source ∷ type_error_cause source ∷ 0 ∷ 0 ∷ []) (type_error_values source)
refusal_of (ConstExpression handle source) =
    refusal 4 5 handle
    (const_expression_error_code source ∷ const_expression_error_cause source ∷
    const_expression_error_second_cause source ∷ 0 ∷ [])
    (const_expression_error_values source)
refusal_of (Constant handle name source) = refusal 5 2 handle (constant_error_code source ∷ 0 ∷ 0 ∷ 0 ∷ []) []
refusal_of (Override handle name source) =
    refusal 6 3 handle
    (override_error_code source ∷ override_error_cause source ∷ override_error_second_cause source ∷
    override_error_third_cause source ∷ [])
    (override_error_values source)
refusal_of Corrupted = refusal 9 0 0 (1 ∷ 0 ∷ 0 ∷ 0 ∷ []) []
refusal_of (ArraySizeError handle) = refusal 9 5 handle (2 ∷ 0 ∷ 0 ∷ 0 ∷ []) (handle ∷ [])
refusal_of OutOfMemory = refusal 9 0 0 (0 ∷ 0 ∷ 0 ∷ 0 ∷ []) []
