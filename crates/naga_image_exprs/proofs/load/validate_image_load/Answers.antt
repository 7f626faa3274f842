use Rattle.std.proofs.Common.{◌≡◌, ◌∙◌, ◌<◌, Contains, ap, length, rules, sym}
use Rattle.std.proofs.lemmas.List.Elements.{All-contains_itself}
use Rattle.std.specs.Prelude.{Err, Ok}
use Rattle.naga_image_exprs.proofs.FirstConditions.{broken_at, none_broken}
use Rattle.naga_image_exprs.proofs.KnownOperands.{known_of_load, looked_up}
use Rattle.naga_image_exprs.proofs.Results.{load_result}
use Rattle.naga_image_exprs.proofs.load.validate_image_load.Goals as goal
use Rattle.naga_image_exprs.specs.Loads.{load_checks}
use Rattle.naga_ir.specs.References.{operands}
use Rattle.naga_ir.specs.declared.expression.Expression.{Expression}
use Rattle.naga_ir.specs.declared.expression.Expression.TheVariants.{ImageLoad}
use Rattle.naga_info.specs.Stages.{every_stage}
use Rattle.naga_info.specs.Surroundings.{surroundings}

pub image_at-requires-clause-known : goal.image_at-requires-clause-known
image_at-requires-clause-known c =
    let x : Expression = ImageLoad c.args.image c.args.coordinate c.args.array_index c.args.sample c.args.level in
    let all = known_of_load (Contains (operands x)) c.args.image c.args.coordinate c.args.array_index c.args.sample c.args.level (All-contains_itself (operands x)) in
    looked_up (surroundings c.args.context) c.requires.0 x c.args.image c.requires.1 all.of_image

pub check_coordinate-requires-clause-known : goal.check_coordinate-requires-clause-known
check_coordinate-requires-clause-known c = (known_of_load (λ e. e < length c.args.context.info.now.types) c.args.image c.args.coordinate c.args.array_index c.args.sample c.args.level c.requires.1.typed).of_coordinate

pub check_loaded_layer-requires-clause-known : goal.check_loaded_layer-requires-clause-known
check_loaded_layer-requires-clause-known c = (known_of_load (λ e. e < length c.args.context.info.now.types) c.args.image c.args.coordinate c.args.array_index c.args.sample c.args.level c.requires.1.typed).of_layer

pub check_sample-requires-clause-known : goal.check_sample-requires-clause-known
check_sample-requires-clause-known c = (known_of_load (λ e. e < length c.args.context.info.now.types) c.args.image c.args.coordinate c.args.array_index c.args.sample c.args.level c.requires.1.typed).of_sample

pub check_level-requires-clause-known : goal.check_level-requires-clause-known
check_level-requires-clause-known c = (known_of_load (λ e. e < length c.args.context.info.now.types) c.args.image c.args.coordinate c.args.array_index c.args.sample c.args.level c.requires.1.typed).of_level

pub returns-in_err-check_coordinate : goal.returns-in_err-check_coordinate
returns-in_err-check_coordinate c =
    let s = surroundings c.args.context in
    let found = c.in_ok-found.found in
    let error = c.in_err-check_coordinate.field-0.0 in
    let is : c.from_residual-in_err-check_coordinate.result ≡ Err error = search rules in
    let conditions = load_checks s found c.args.coordinate c.args.array_index c.args.sample c.args.level in
    is ∙ sym (load_result s c.args.image c.args.coordinate c.args.array_index c.args.sample c.args.level found (Err error) c.in_ok-found.ensures (broken_at conditions 0 every_stage error tt c.in_err-check_coordinate.ensures))

pub returns-in_err-check_loaded_layer : goal.returns-in_err-check_loaded_layer
returns-in_err-check_loaded_layer c =
    let s = surroundings c.args.context in
    let found = c.in_ok-found.found in
    let error = c.in_err-check_loaded_layer.field-0.0 in
    let is : c.from_residual-in_err-check_loaded_layer.result ≡ Err error = search rules in
    let conditions = load_checks s found c.args.coordinate c.args.array_index c.args.sample c.args.level in
    is ∙ sym (load_result s c.args.image c.args.coordinate c.args.array_index c.args.sample c.args.level found (Err error) c.in_ok-found.ensures (broken_at conditions 1 every_stage error (c.in_ok-check_coordinate.ensures, tt) c.in_err-check_loaded_layer.ensures))

pub returns-in_err-check_sample : goal.returns-in_err-check_sample
returns-in_err-check_sample c =
    let s = surroundings c.args.context in
    let found = c.in_ok-found.found in
    let error = c.in_err-check_sample.field-0.0 in
    let is : c.from_residual-in_err-check_sample.result ≡ Err error = search rules in
    let conditions = load_checks s found c.args.coordinate c.args.array_index c.args.sample c.args.level in
    is ∙ sym (load_result s c.args.image c.args.coordinate c.args.array_index c.args.sample c.args.level found (Err error) c.in_ok-found.ensures (broken_at conditions 2 every_stage error (c.in_ok-check_coordinate.ensures, (c.in_ok-check_loaded_layer.ensures, tt)) c.in_err-check_sample.ensures))

pub returns-in_err-check_level : goal.returns-in_err-check_level
returns-in_err-check_level c =
    let s = surroundings c.args.context in
    let found = c.in_ok-found.found in
    let error = c.in_err-check_level.field-0.0 in
    let is : c.from_residual-in_err-check_level.result ≡ Err error = search rules in
    let conditions = load_checks s found c.args.coordinate c.args.array_index c.args.sample c.args.level in
    is ∙ sym (load_result s c.args.image c.args.coordinate c.args.array_index c.args.sample c.args.level found (Err error) c.in_ok-found.ensures (broken_at conditions 3 every_stage error (c.in_ok-check_coordinate.ensures, (c.in_ok-check_loaded_layer.ensures, (c.in_ok-check_sample.ensures, tt))) c.in_err-check_level.ensures))

pub returns : goal.returns
returns c =
    let s = surroundings c.args.context in
    let found = c.in_ok-found.found in
    let conditions = load_checks s found c.args.coordinate c.args.array_index c.args.sample c.args.level in
    ap Ok c.every_stage.ensures
    ∙ sym (load_result s c.args.image c.args.coordinate c.args.array_index c.args.sample c.args.level found (Ok every_stage) c.in_ok-found.ensures (none_broken conditions every_stage (c.in_ok-check_coordinate.ensures, (c.in_ok-check_loaded_layer.ensures, (c.in_ok-check_sample.ensures, (c.in_ok-check_level.ensures, tt))))))
