use Rattle.std.proofs.Common.{◌≡◌, ◌∙◌, ◌<◌, ℕ, List, Option, Some, Ok, ap, get_or, length, refl, slice_get, subst, sym}
use Rattle.std.proofs.lemmas.Option.{slice_get_read}
use Rattle.std.specs.Prelude.{ok_or, option_map}
use Rattle.naga_image_exprs.proofs.Places.{base_exists, variable_exists, variable_type_exists}
use Rattle.naga_image_exprs.proofs.resource.global_var_ty.Goals as goal
use Rattle.naga_image_exprs.proofs.resource.global_var_ty.Goals.{in-Access, in-Access-2}
use Rattle.naga_image_exprs.specs.Resources.{source_in, type_of_source}
use Rattle.naga_ir.specs.declared.expression.Expression.{Expression}
use Rattle.naga_ir.specs.declared.ir.FunctionArgument.{FunctionArgument}
use Rattle.naga_info.specs.Surroundings.{surroundings}
use Rattle.naga_info.specs.declared.expression_error.ExpressionError.TheVariants.{ExpectedGlobalVariable}

pub index-requires-in-GlobalVariable : goal.index-requires-in-GlobalVariable
index-requires-in-GlobalVariable c = variable_exists (surroundings c.args.context) c.requires.sound c.args.expression c.in-GlobalVariable.variable (c.index.ensures ∙ ap Some c.in-GlobalVariable.is)

pub returns-in-GlobalVariable-clause-exists : goal.returns-in-GlobalVariable-clause-exists
returns-in-GlobalVariable-clause-exists c = variable_type_exists (surroundings c.args.context) c.requires.sound c.in-GlobalVariable.variable c.index-in-GlobalVariable.result.now c.index-in-GlobalVariable.ensures

pub element_type-requires-clause-exists : goal.element_type-requires-clause-exists
element_type-requires-clause-exists c =
    let s = surroundings c.args.context in
    let Within = λ (base : ℕ). base < length s.function.expressions in
    elim c.in-Access-1.branch [
      | in-Access w ↦ subst Within (sym w.base-is) (base_exists s c.requires.sound c.args.expression w.in-Access.base c.index.result.now c.index.ensures w.in-Access.is)
      | in-Access-2 w ↦ subst Within (sym w.base-is) (base_exists s c.requires.sound c.args.expression w.in-Access.base c.index.result.now c.index.ensures w.in-Access.is)
    ]

-- the argument that is read is the one of the index
read : (arguments given : List FunctionArgument) (index : ℕ) (a : FunctionArgument) → given ≡ arguments → index < length arguments → a ≡ get_or given index a → slice_get arguments index ≡ Some a
read arguments given index a all within is = slice_get_read arguments (length arguments) index a refl within (subst (λ (xs : List FunctionArgument). a ≡ get_or xs index a) all is)

pub returns-in-FunctionArgument-clause-value : goal.returns-in-FunctionArgument-clause-value
returns-in-FunctionArgument-clause-value c =
    let s = surroundings c.args.context in
    let index = c.in-FunctionArgument.index in
    let a = c.index-as_slice-index.result in
    let named = c.index.ensures ∙ ap Some c.in-FunctionArgument.is in
    let at = read s.function.arguments c.as_slice.result.now index a c.as_slice.ensures (c.requires.known.argument index named) c.index-as_slice-index.is in
    ap (λ (x : FunctionArgument). Ok x.ty) (sym c.index-as_slice-index.is)
    ∙ sym (ap (λ (found : Option Expression). type_of_source s (source_in found)) named
    ∙ ap (λ (found : Option FunctionArgument). ok_or (option_map (λ (x : FunctionArgument). x.ty) found) ExpectedGlobalVariable) at)
