-- The stages of a validation: which item breaks a rule.
use Rattle.std.specs.Prelude.{ℕ, List, [], ◌∷◌, codes, decimal}
use Rattle.naga_error_text.specs.declared.families.Family.{Family}
use Rattle.naga_error_text.specs.declared.families.Family.TheVariants as family
use Rattle.naga_error_text.specs.declared.names.Names.TheVariants.{ItemKinds}
use Rattle.naga_error_text.specs.declared.pieces.Values.{Values}
use Rattle.naga_error_text.specs.declared.stages.Stage.{Stage}
use Rattle.naga_error_text.specs.declared.stages.Stage.TheVariants as stage
use Rattle.naga_error_text.specs.Names.{named}

-- the stages in the order of their numbers, which begin at 1
abbrev pub stages : List Stage
stages =
    stage.Handle ∷ stage.Layout ∷ stage.Type_ ∷ stage.GlobalExpression ∷ stage.Constant ∷ stage.Override ∷
    stage.Function ∷ stage.EntryPoint ∷ stage.Module ∷ stage.GlobalVariable ∷ stage.Declarations ∷ stage.Interface ∷ []

-- what the text of a stage says of the values `v`, piece by piece
abbrev pub stage_parts : Stage → Values → List (List ℕ)
stage_parts stage.Handle v =
    codes "Handle or range [" ∷ decimal v.index ∷ codes "] of " ∷ named ItemKinds v.kind ∷ codes " is invalid: " ∷ []
stage_parts stage.Layout v = codes "Error laying out type [" ∷ decimal v.index ∷ codes "]: " ∷ []
stage_parts stage.Type_ v = codes "Type [" ∷ decimal v.index ∷ codes "] is invalid: " ∷ []
stage_parts stage.GlobalExpression v = codes "Constant expression [" ∷ decimal v.index ∷ codes "] is invalid: " ∷ []
stage_parts stage.Constant v = codes "Constant [" ∷ decimal v.index ∷ codes "] is invalid: " ∷ []
stage_parts stage.Override v = codes "Override [" ∷ decimal v.index ∷ codes "] is invalid: " ∷ []
stage_parts stage.Function v =
    codes "Expression [" ∷ decimal v.expression ∷ codes "] of function [" ∷ decimal v.index ∷
    codes "] is invalid: " ∷ []
stage_parts stage.EntryPoint v =
    codes "Expression [" ∷ decimal v.expression ∷ codes "] of entry point [" ∷ decimal v.index ∷
    codes "] is invalid: " ∷ []
stage_parts stage.Module v = codes "The module is invalid: " ∷ []
stage_parts stage.GlobalVariable v = codes "Global variable [" ∷ decimal v.index ∷ codes "] is invalid: " ∷ []
stage_parts stage.Declarations v = codes "Function [" ∷ decimal v.index ∷ codes "] is invalid: " ∷ []
stage_parts stage.Interface v = codes "Entry point [" ∷ decimal v.index ∷ codes "] is invalid: " ∷ []

-- what the error of a stage is one of
abbrev pub stage_cause : Stage → Family
stage_cause stage.Handle = family.Handle
stage_cause stage.Layout = family.Layout
stage_cause stage.Type_ = family.Type_
stage_cause stage.GlobalExpression = family.ConstExpression
stage_cause stage.Constant = family.Constant
stage_cause stage.Override = family.Override
stage_cause stage.Function = family.Expression
stage_cause stage.EntryPoint = family.Expression
stage_cause stage.Module = family.Module
stage_cause stage.GlobalVariable = family.GlobalVariable
stage_cause stage.Declarations = family.FunctionDeclaration
stage_cause stage.Interface = family.EntryPoint
