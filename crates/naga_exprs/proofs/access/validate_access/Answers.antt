use Rattle.std.proofs.Common.{◌≡◌, ◌∙◌, [], ◌∷◌, Bool as Boolean, true, false, Option, Some, None, Err, rules, slice_get, ap, subst, sym}
use Rattle.naga_exprs.proofs.access.validate_access.Goals as goal
use Rattle.naga_exprs.specs.Accesses.{constant_index_error, has_parts, lengths}
use Rattle.naga_ir.proofs.Handles.{global_references_ok}
use Rattle.naga_ir.specs.Handles.{GlobalReferencesOk}
use Rattle.naga_ir.specs.ItemReferences.{GlobalLists, global_lists}
use Rattle.naga_info.specs.Stages.{every_stage}
use Rattle.naga_info.specs.Surroundings.{form_at, surroundings}
use Rattle.naga_info.specs.Words.{is_scalar_that}
use Rattle.naga_info.specs.declared.expression_error.ExpressionError.{ExpressionError}
use Rattle.naga_types.specs.Checks.{ok_unless, first_error_or, require}
use Rattle.naga_types.specs.TypeRule.{is_integer}
use Rattle.naga_typing.specs.Constants.{index_of}
use Rattle.naga_typing.specs.Index.{IsLength}

-- an access that breaks only the third condition is refused with its error
refused : (parts integer : Boolean) (bad : Option ExpressionError) (a b error : ExpressionError) → parts ≡ true → integer ≡ true → ok_unless bad (tt {0}) ≡ Err error
    → first_error_or (require parts a ∷ require integer b ∷ bad ∷ []) every_stage ≡ Err error
refused true true None a b error p i h = cc h
refused true true (Some x) a b error p i h = cc h
refused true false bad a b error p i h = cc i
refused false integer bad a b error p i h = cc p

pub indexable_length-length-requires-clause-references :
    goal.indexable_length-length-requires-clause-references
indexable_length-length-requires-clause-references c = global_references_ok c.args.context.«module».now c.requires.sound.handles

pub get_const_val_from-constant-requires-clause-references :
    goal.get_const_val_from-constant-requires-clause-references
get_const_val_from-constant-requires-clause-references c = subst GlobalReferencesOk (sym c.to_ctx-gctx.ensures.lists) (global_references_ok c.args.context.«module».now c.requires.sound.handles)

pub returns-in_err-check_constant : goal.returns-in_err-check_constant
returns-in_err-check_constant c =
    let s = surroundings c.args.context in
    let g = global_lists s.«module» in
    let length = c.indexable_length-length.result in
    let found = slice_get s.function.expressions c.args.index in
    let error = c.in_err-check_constant.field-0.0 in
    let is : c.from_residual.result ≡ Err error = search rules in
    let constant : c.get_const_val_from-constant.result ≡ index_of g found = c.get_const_val_from-constant.ensures ∙ ap (λ (lists : GlobalLists). index_of lists found) c.to_ctx-gctx.ensures.lists in
    let parts : has_parts (form_at s c.args.base) ≡ true = search rules in
    let integer : is_scalar_that (λ scalar. is_integer scalar.kind) (form_at s c.args.index) ≡ true = search rules in
    let bad : ok_unless (constant_index_error c.args.base c.args.index length (index_of g found)) (tt {0}) ≡ Err error = search rules in
    (length, subst (λ form. IsLength g (lengths s.resolved g) form length) c.type_of-base_type.ensures.form c.indexable_length-length.ensures, is ∙ sym (refused _ _ _ _ _ error parts integer bad))
