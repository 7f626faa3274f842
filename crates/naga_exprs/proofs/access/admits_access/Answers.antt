use Rattle.std.proofs.Common.{◌≡◌, ◌∙◌, [], ◌∷◌, Bool as Boolean, true, false, Option, Some, None, Ok, Err, Result, rules, slice_get, ap, refl, is_none, subst, sym}
use Rattle.naga_exprs.proofs.access.admits_access.Goals as goal
use Rattle.naga_exprs.specs.Accesses.{access_checks, constant_index_error, has_parts, index_error, lengths}
use Rattle.naga_ir.proofs.Handles.{global_references_ok}
use Rattle.naga_ir.specs.Handles.{GlobalReferencesOk}
use Rattle.naga_ir.specs.ItemReferences.{GlobalLists, global_lists}
use Rattle.naga_info.specs.Stages.{every_stage}
use Rattle.naga_info.specs.Surroundings.{form_at, surroundings}
use Rattle.naga_info.specs.Words.{is_integer_scalar, is_scalar_that}
use Rattle.naga_info.specs.declared.expression_error.ExpressionError.{ExpressionError}
use Rattle.naga_info.specs.declared.expression_error.ExpressionError.TheVariants as refusal
use Rattle.naga_types.specs.Checks.{first_error_or, require}
use Rattle.naga_types.specs.TypeRule.{is_integer}
use Rattle.naga_typing.proofs.Lengths.{length_exists, length_once}
use Rattle.naga_typing.specs.Constants.{index_of}
use Rattle.naga_typing.specs.Context.{ReferencesExist}
use Rattle.naga_typing.specs.Index.{IsLength}
use Rattle.naga_typing.specs.declared.index.IndexableLength.{IndexableLength}
use Rattle.naga_typing.specs.declared.index.IndexableLengthError.{IndexableLengthError}

-- an access is accepted if its three conditions hold
accepts : (parts integer : Boolean) (bad : Option ExpressionError) (a b : ExpressionError) → parts ≡ true → integer ≡ true → bad ≡ None → Ok every_stage ≡ first_error_or (require parts a ∷ require integer b ∷ bad ∷ []) every_stage
accepts true true None a b p i n = refl
accepts true true (Some x) a b p i n = cc n
accepts true false bad a b p i n = cc i
accepts false integer bad a b p i n = cc p

-- if an access is accepted, its third condition holds
accepted : (parts integer : Boolean) (bad : Option ExpressionError) (a b : ExpressionError) → Ok every_stage ≡ first_error_or (require parts a ∷ require integer b ∷ bad ∷ []) every_stage → bad ≡ None
accepted true true None a b h = refl
accepted true true (Some x) a b h = cc h
accepted true false bad a b h = cc h
accepted false integer bad a b h = cc h

-- an error that isn't there is `None`
nothing : (found : Option ExpressionError) → is_none found ≡ true → found ≡ None
nothing None h = refl
nothing (Some x) h = cc h

pub indexable_length-length-requires-clause-references :
    goal.indexable_length-length-requires-clause-references
indexable_length-length-requires-clause-references c = global_references_ok c.args.context.«module».now c.requires.sound.handles

pub get_const_val_from-requires-clause-references :
    goal.get_const_val_from-requires-clause-references
get_const_val_from-requires-clause-references c = subst GlobalReferencesOk (sym c.to_ctx-gctx.ensures.lists) (global_references_ok c.args.context.«module».now c.requires.sound.handles)

pub returns-in-Ok : goal.returns-in-Ok
returns-in-Ok c =
    let s = surroundings c.args.context in
    let g = global_lists s.«module» in
    let of_array = lengths s.resolved g in
    let base = c.args.base in
    let index = c.args.index in
    let length = c.indexable_length-length.result in
    let found = slice_get s.function.expressions index in
    let constant : index_of g found ≡ Ok c.in-Ok.value = sym (c.get_const_val_from.ensures ∙ ap (λ (lists : GlobalLists). index_of lists found) c.to_ctx-gctx.ensures.lists) ∙ c.in-Ok.is in
    let error : constant_index_error base index length (index_of g found) ≡ index_error base c.in-Ok.value length = ap (constant_index_error base index length) constant in
    let parts : has_parts (form_at s base) ≡ true = search rules in
    let integer : is_scalar_that (λ scalar. is_integer scalar.kind) (form_at s index) ≡ true = search rules in
    let is : IsLength g of_array (form_at s base) length = subst (λ form. IsLength g of_array form length) c.type_of-base_type.ensures.form c.indexable_length-length.ensures in (
      λ within. (length, is, accepts _ _ _ _ _ parts integer (error ∙ nothing _ (sym (c.is_within.ensures base) ∙ within))),
      λ rule.
          let same : rule.0 ≡ length = length_once g of_array (form_at s base) rule.0 length rule.1 is in
          let allowed = subst (λ (l : Result IndexableLength IndexableLengthError). Ok every_stage ≡ first_error_or (access_checks s base index l) every_stage) same rule.2 in
          c.is_within.ensures base ∙ ap is_none (sym error ∙ accepted (has_parts (form_at s base)) (is_integer_scalar (form_at s index)) _ (refusal.InvalidBaseType base) (refusal.InvalidIndexType index) allowed),
    )

pub returns-in-Err-NonConst : goal.returns-in-Err-NonConst
returns-in-Err-NonConst c =
    let s = surroundings c.args.context in
    let g = global_lists s.«module» in
    let base = c.args.base in
    let index = c.args.index in
    let found = slice_get s.function.expressions index in
    let parts : has_parts (form_at s base) ≡ true = search rules in
    let integer : is_scalar_that (λ scalar. is_integer scalar.kind) (form_at s index) ≡ true = search rules in
    let exist : ReferencesExist g (form_at s base) = subst (ReferencesExist g) c.type_of-base_type.ensures.form c.type_of-base_type.ensures.exist in
    let length = length_exists g (global_references_ok s.«module» c.requires.sound.handles) (lengths s.resolved g) (form_at s base) exist in
    let constant = sym (c.get_const_val_from.ensures ∙ ap (λ (lists : GlobalLists). index_of lists found) c.to_ctx-gctx.ensures.lists) ∙ c.in-Err-NonConst.is ∙ ap Err c.in-Err-NonConst.field-0-is in (
      λ yes. (length.0, length.1, accepts _ _ _ _ _ parts integer (ap (constant_index_error base index length.0) constant)),
      λ rule. refl,
    )
