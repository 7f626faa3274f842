use Rattle.std.proofs.Common.{◌≡◌, ◌∙◌, List, sym, subst}
use Rattle.std.proofs.lemmas.Option.{same_Some}
use Rattle.naga_info.specs.FunctionTypes.{AreFunctionTypes}
use Rattle.naga_interface.specs.Functions.{CanValidate, IsDeclarationResult}
use Rattle.naga_interface.specs.Surroundings.{InterfaceSurroundings}
use Rattle.naga_ir.specs.declared.ir.Function.{Function}
use Rattle.naga_typing.specs.declared.typifier.TypeResolution.{TypeResolution}
use Rattle.naga_valid.proofs.DeclarationAnswers.{declaration_answer}
use Rattle.naga_valid.proofs.DeclaredItems.{declarations_known, function_among}
use Rattle.naga_valid.specs.Interfaces.{surroundings_of}
use Rattle.naga_valid.proofs.driver.Validator.check_declarations.Goals as goal

pub validate_declarations-requires : goal.validate_declarations-requires
validate_declarations-requires g c =
    let m = c.args.module.now in
    let state = c.args.self.now in
    let lists = c.args.mod_info.now.lists in
    let resolves = g.T.Typing.resolves state.typing in
    let i = c.args.handle in
    let f = c.index-2.result.now in
    let info = c.index.result.now in
    let accepted = c.requires.functions.in_order.functions i info c.index.ensures in
    let same : accepted.0 ≡ f = same_Some accepted.0 f (sym accepted.1 ∙ c.index-2.ensures) in
    let types : AreFunctionTypes resolves m f info.types = subst (λ (x : Function). AreFunctionTypes resolves m x info.types) same accepted.2.types in
    subst (λ (s : InterfaceSurroundings). CanValidate s c.as_slice-types.result.now f) (sym c.interface_context-ctx.ensures)
    (subst (λ (types : List TypeResolution). CanValidate (surroundings_of state m) types f) (sym c.as_slice-types.ensures)
    (declarations_known resolves (g.met.T.Typing.lawful state.typing) state m lists c.requires.accepted f (function_among m i f c.index-2.ensures) info.types types))

pub returns : goal.returns
returns g c =
    let m = c.args.module.now in
    let state = c.args.self.now in
    let f = c.index-2.result.now in
    let info = c.index.result.now in
    let result = c.validate_declarations.result in
    declaration_answer state m c.args.mod_info.now.lists c.args.handle f info result c.index-2.ensures c.index.ensures
    (subst (λ (types : List TypeResolution). IsDeclarationResult (surroundings_of state m) types f result) c.as_slice-types.ensures
    (subst (λ (s : InterfaceSurroundings). IsDeclarationResult s c.as_slice-types.result.now f result) c.interface_context-ctx.ensures c.validate_declarations.ensures))
