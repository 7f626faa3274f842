-- An error of any family.
use Rattle.std.specs.Prelude.{ℕ, List, Option, Some, None, option_map}
use Rattle.naga_error_text.specs.declared.errors.Error.{Error}
use Rattle.naga_error_text.specs.declared.errors.Error.TheVariants as error
use Rattle.naga_error_text.specs.declared.families.Family.{Family}
use Rattle.naga_error_text.specs.declared.families.Family.TheVariants as family
use Rattle.naga_error_text.specs.declared.declaration_errors.EntryPointError.TheVariants as entry_point_error
use Rattle.naga_error_text.specs.declared.declaration_errors.FunctionDeclarationError.TheVariants as function_declaration_error
use Rattle.naga_error_text.specs.declared.declaration_errors.GlobalVariableError.TheVariants as global_variable_error
use Rattle.naga_error_text.specs.declared.module_errors.OverrideError.TheVariants as override_error
use Rattle.naga_error_text.specs.declared.pieces.Values.{Values}
use Rattle.naga_error_text.specs.Causes.{compose_error_parts, compose_errors, disalignment_parts, disalignments, immediate_error_parts, immediate_errors, indexable_length_error_parts, indexable_length_errors, literal_error_cause, literal_error_parts, literal_errors, resolve_error_parts, resolve_errors, varying_error_parts, varying_errors, width_error_parts, width_errors}
use Rattle.naga_error_text.specs.DeclarationErrors.{entry_point_error_cause, entry_point_error_parts, entry_point_errors, function_declaration_error_cause, function_declaration_error_parts, function_declaration_errors, global_variable_error_cause, global_variable_error_parts, global_variable_errors, local_variable_error_parts, local_variable_errors}
use Rattle.naga_error_text.specs.ExpressionErrors.{expression_error_cause, expression_error_parts, expression_errors}
use Rattle.naga_error_text.specs.ModuleErrors.{const_expression_error_cause, const_expression_error_parts, const_expression_errors, constant_error_parts, constant_errors, handle_error_parts, handle_errors, layout_error_parts, layout_errors, module_error_parts, module_errors, override_error_cause, override_error_parts, override_errors}
use Rattle.naga_error_text.specs.Stages.{stage_cause, stage_parts, stages}
use Rattle.naga_error_text.specs.TypeErrors.{type_error_cause, type_error_parts, type_errors}
use Rattle.naga_error_text.specs.Numbers.{numbered}

-- the error of a family with the number `n`, if there is one
abbrev pub error_of : Family → ℕ → Option Error
error_of family.Stage n = option_map error.Stage (numbered stages n)
error_of family.Handle n = option_map error.Handle (numbered handle_errors n)
error_of family.Layout n = option_map error.Layout (numbered layout_errors n)
error_of family.Type_ n = option_map error.Type_ (numbered type_errors n)
error_of family.ConstExpression n = option_map error.ConstExpression (numbered const_expression_errors n)
error_of family.Constant n = option_map error.Constant (numbered constant_errors n)
error_of family.Override n = option_map error.Override (numbered override_errors n)
error_of family.Expression n = option_map error.Expression (numbered expression_errors n)
error_of family.Module n = option_map error.Module (numbered module_errors n)
error_of family.Varying n = option_map error.Varying (numbered varying_errors n)
error_of family.Literal n = option_map error.Literal (numbered literal_errors n)
error_of family.Width n = option_map error.Width (numbered width_errors n)
error_of family.Compose n = option_map error.Compose (numbered compose_errors n)
error_of family.Resolve n = option_map error.Resolve (numbered resolve_errors n)
error_of family.IndexableLength n = option_map error.IndexableLength (numbered indexable_length_errors n)
error_of family.GlobalVariable n = option_map error.GlobalVariable (numbered global_variable_errors n)
error_of family.LocalVariable n = option_map error.LocalVariable (numbered local_variable_errors n)
error_of family.FunctionDeclaration n = option_map error.FunctionDeclaration (numbered function_declaration_errors n)
error_of family.EntryPoint n = option_map error.EntryPoint (numbered entry_point_errors n)
error_of family.Immediate n = option_map error.Immediate (numbered immediate_errors n)
error_of family.Disalignment n = option_map error.Disalignment (numbered disalignments n)

-- what the text of an error says of the values `v`, piece by piece, before that of the error within it
abbrev pub error_parts : Error → Values → List (List ℕ)
error_parts (error.Stage e) v = stage_parts e v
error_parts (error.Handle e) v = handle_error_parts e v
error_parts (error.Layout e) v = layout_error_parts e v
error_parts (error.Type_ e) v = type_error_parts e v
error_parts (error.ConstExpression e) v = const_expression_error_parts e v
error_parts (error.Constant e) v = constant_error_parts e v
error_parts (error.Override e) v = override_error_parts e v
error_parts (error.Expression e) v = expression_error_parts e v
error_parts (error.Module e) v = module_error_parts e v
error_parts (error.Varying e) v = varying_error_parts e v
error_parts (error.Literal e) v = literal_error_parts e v
error_parts (error.Width e) v = width_error_parts e v
error_parts (error.Compose e) v = compose_error_parts e v
error_parts (error.Resolve e) v = resolve_error_parts e v
error_parts (error.IndexableLength e) v = indexable_length_error_parts e v
error_parts (error.GlobalVariable e) v = global_variable_error_parts e v
error_parts (error.LocalVariable e) v = local_variable_error_parts e v
error_parts (error.FunctionDeclaration e) v = function_declaration_error_parts e v
error_parts (error.EntryPoint e) v = entry_point_error_parts e v
error_parts (error.Immediate e) v = immediate_error_parts e v
error_parts (error.Disalignment e) v = disalignment_parts e v

-- what the error within an error is one of, if there is one
abbrev pub cause_of : Error → Option Family
cause_of (error.Stage e) = Some (stage_cause e)
cause_of (error.Handle e) = None
cause_of (error.Layout e) = None
cause_of (error.Type_ e) = type_error_cause e
cause_of (error.ConstExpression e) = const_expression_error_cause e
cause_of (error.Constant e) = None
cause_of (error.Override e) = override_error_cause e
cause_of (error.Expression e) = expression_error_cause e
cause_of (error.Module e) = None
cause_of (error.Varying e) = None
cause_of (error.Literal e) = Some (literal_error_cause e)
cause_of (error.Width e) = None
cause_of (error.Compose e) = None
cause_of (error.Resolve e) = None
cause_of (error.IndexableLength e) = None
cause_of (error.GlobalVariable e) = global_variable_error_cause e
cause_of (error.LocalVariable e) = None
cause_of (error.FunctionDeclaration e) = function_declaration_error_cause e
cause_of (error.EntryPoint e) = entry_point_error_cause e
cause_of (error.Immediate e) = None
cause_of (error.Disalignment e) = None

-- values without the first
abbrev pub without_first : Values → Values
without_first v = record v { first = v.second; second = v.third; third = v.fourth; fourth = v.fifth; fifth = 0 }

-- the values of the error within an error, of the values `v` of both: those after its own
abbrev pub values_within : Error → Values → Values
values_within (error.Override override_error.ConstExpression) v = without_first v
values_within (error.FunctionDeclaration function_declaration_error.LocalVariable) v = without_first v
values_within (error.EntryPoint entry_point_error.Argument) v = without_first v
values_within (error.GlobalVariable global_variable_error.Alignment) v = without_first (without_first v)
values_within e v = v
