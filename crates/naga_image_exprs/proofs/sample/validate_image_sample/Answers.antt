use Rattle.std.proofs.Common.{◌≡◌, ◌∙◌, ◌<◌, Contains, ap, length, rules, sym}
use Rattle.std.proofs.lemmas.List.Elements.{All-contains_itself}
use Rattle.std.specs.Prelude.{Err, Ok}
use Rattle.naga_image_exprs.proofs.FirstConditions.{broken_at, none_broken}
use Rattle.naga_image_exprs.proofs.KnownOperands.{if_there, known_of_sample, looked_up}
use Rattle.naga_image_exprs.proofs.Results.{clamp_result, sample_result, text_passed, unfound_result}
use Rattle.naga_image_exprs.proofs.Texts.{empty_text}
use Rattle.naga_image_exprs.proofs.sample.validate_image_sample.Goals as goal
use Rattle.naga_image_exprs.specs.Samples.{expression_of, level_stages, sample_checks}
use Rattle.naga_ir.specs.References.{operands}
use Rattle.naga_info.specs.Surroundings.{surroundings}

pub sampled-requires-clause-image : goal.sampled-requires-clause-image
sampled-requires-clause-image c =
    let x = expression_of c.args.sample.now in
    looked_up (surroundings c.args.context) c.requires.0 x c.args.sample.now.image c.requires.1 (known_of_sample (Contains (operands x)) c.args.sample.now (All-contains_itself (operands x))).image

pub sampled-requires-clause-sampler : goal.sampled-requires-clause-sampler
sampled-requires-clause-sampler c =
    let x = expression_of c.args.sample.now in
    looked_up (surroundings c.args.context) c.requires.0 x c.args.sample.now.sampler c.requires.1 (known_of_sample (Contains (operands x)) c.args.sample.now (All-contains_itself (operands x))).sampler

pub check_sampled_layer-requires-clause-known : goal.check_sampled_layer-requires-clause-known
check_sampled_layer-requires-clause-known c = (known_of_sample (λ e. e < length c.args.context.info.now.types) c.args.sample.now c.requires.1.typed).array_index

pub check_coordinate-requires-clause-known : goal.check_coordinate-requires-clause-known
check_coordinate-requires-clause-known c = (known_of_sample (λ e. e < length c.args.context.info.now.types) c.args.sample.now c.requires.1.typed).coordinate

pub check_offset-requires-clause-known : goal.check_offset-requires-clause-known
check_offset-requires-clause-known c = (known_of_sample (λ e. e < length c.args.context.info.now.types) c.args.sample.now c.requires.1.typed).offset

pub check_depth_reference-requires-clause-known : goal.check_depth_reference-requires-clause-known
check_depth_reference-requires-clause-known c = (known_of_sample (λ e. e < length c.args.context.info.now.types) c.args.sample.now c.requires.1.typed).depth_ref

pub check_level-requires-clause-known : goal.check_level-requires-clause-known
check_level-requires-clause-known c = (known_of_sample (λ e. e < length c.args.context.info.now.types) c.args.sample.now c.requires.1.typed).level

pub check_offset-requires-clause-kind : goal.check_offset-requires-clause-kind
check_offset-requires-clause-kind c = if_there (λ e. e < length c.args.context.kinds.now) c.args.sample.now.offset c.requires.1.kinds

pub returns-in_err-image : goal.returns-in_err-image
returns-in_err-image c =
    let error = c.in_err-image.field-0.0 in
    let is : c.from_residual.result ≡ Err error = search rules in
    unfound_result (surroundings c.args.context) c.args.sample.now (empty_text c.args.alloc) error c.from_residual.result c.in_err-image.ensures is

pub returns-in_err-check_sampled_layer : goal.returns-in_err-check_sampled_layer
returns-in_err-check_sampled_layer c =
    let s = surroundings c.args.context in
    let sample = c.args.sample.now in
    let image = c.in_ok-image.image in
    let comparison = c.in_ok-image.comparison in
    let error = c.in_err-check_sampled_layer.field-0.0 in
    let is : c.from_residual-in_err-check_sampled_layer.result ≡ Err error = search rules in
    let text = empty_text c.args.alloc in
    let conditions = sample_checks s text sample image comparison in
    sample_result s sample image comparison c.in_ok-image.ensures c.from_residual-in_err-check_sampled_layer.result text (broken_at conditions 0 (level_stages sample.level) error tt c.in_err-check_sampled_layer.ensures ∙ sym is)

pub returns-in_err-check_class : goal.returns-in_err-check_class
returns-in_err-check_class c =
    let s = surroundings c.args.context in
    let sample = c.args.sample.now in
    let image = c.in_ok-image.image in
    let comparison = c.in_ok-image.comparison in
    let error = c.in_err-check_class.field-0.0 in
    let is : c.from_residual-in_err-check_class.result ≡ Err error = search rules in
    let text = empty_text c.args.alloc in
    let conditions = sample_checks s text sample image comparison in
    sample_result s sample image comparison c.in_ok-image.ensures c.from_residual-in_err-check_class.result text (broken_at conditions 1 (level_stages sample.level) error (c.in_ok-check_sampled_layer.ensures, tt) c.in_err-check_class.ensures ∙ sym is)

pub returns-in_err-check_comparison : goal.returns-in_err-check_comparison
returns-in_err-check_comparison c =
    let s = surroundings c.args.context in
    let sample = c.args.sample.now in
    let image = c.in_ok-image.image in
    let comparison = c.in_ok-image.comparison in
    let error = c.in_err-check_comparison.field-0.0 in
    let is : c.from_residual-in_err-check_comparison.result ≡ Err error = search rules in
    let text = empty_text c.args.alloc in
    let conditions = sample_checks s text sample image comparison in
    sample_result s sample image comparison c.in_ok-image.ensures c.from_residual-in_err-check_comparison.result text (broken_at conditions 2 (level_stages sample.level) error (c.in_ok-check_sampled_layer.ensures, (c.in_ok-check_class.ensures, tt)) c.in_err-check_comparison.ensures ∙ sym is)

pub returns-in_err-check_coordinate : goal.returns-in_err-check_coordinate
returns-in_err-check_coordinate c =
    let s = surroundings c.args.context in
    let sample = c.args.sample.now in
    let image = c.in_ok-image.image in
    let comparison = c.in_ok-image.comparison in
    let error = c.in_err-check_coordinate.field-0.0 in
    let is : c.from_residual-in_err-check_coordinate.result ≡ Err error = search rules in
    let text = empty_text c.args.alloc in
    let conditions = sample_checks s text sample image comparison in
    sample_result s sample image comparison c.in_ok-image.ensures c.from_residual-in_err-check_coordinate.result text (broken_at conditions 3 (level_stages sample.level) error (c.in_ok-check_sampled_layer.ensures, (c.in_ok-check_class.ensures, (c.in_ok-check_comparison.ensures, tt))) c.in_err-check_coordinate.ensures ∙ sym is)

pub returns-in_err-check_offset : goal.returns-in_err-check_offset
returns-in_err-check_offset c =
    let s = surroundings c.args.context in
    let sample = c.args.sample.now in
    let image = c.in_ok-image.image in
    let comparison = c.in_ok-image.comparison in
    let error = c.in_err-check_offset.field-0.0 in
    let is : c.from_residual-in_err-check_offset.result ≡ Err error = search rules in
    let text = empty_text c.args.alloc in
    let conditions = sample_checks s text sample image comparison in
    sample_result s sample image comparison c.in_ok-image.ensures c.from_residual-in_err-check_offset.result text (broken_at conditions 4 (level_stages sample.level) error (c.in_ok-check_sampled_layer.ensures, (c.in_ok-check_class.ensures, (c.in_ok-check_comparison.ensures, (c.in_ok-check_coordinate.ensures, tt)))) c.in_err-check_offset.ensures ∙ sym is)

pub returns-in_err-check_depth_reference : goal.returns-in_err-check_depth_reference
returns-in_err-check_depth_reference c =
    let s = surroundings c.args.context in
    let sample = c.args.sample.now in
    let image = c.in_ok-image.image in
    let comparison = c.in_ok-image.comparison in
    let error = c.in_err-check_depth_reference.field-0.0 in
    let is : c.from_residual-in_err-check_depth_reference.result ≡ Err error = search rules in
    let text = empty_text c.args.alloc in
    let conditions = sample_checks s text sample image comparison in
    sample_result s sample image comparison c.in_ok-image.ensures c.from_residual-in_err-check_depth_reference.result text (broken_at conditions 5 (level_stages sample.level) error (c.in_ok-check_sampled_layer.ensures, (c.in_ok-check_class.ensures, (c.in_ok-check_comparison.ensures, (c.in_ok-check_coordinate.ensures, (c.in_ok-check_offset.ensures, tt))))) c.in_err-check_depth_reference.ensures ∙ sym is)

pub returns-in_err-check_gather : goal.returns-in_err-check_gather
returns-in_err-check_gather c =
    let s = surroundings c.args.context in
    let sample = c.args.sample.now in
    let image = c.in_ok-image.image in
    let comparison = c.in_ok-image.comparison in
    let error = c.in_err-check_gather.field-0.0 in
    let is : c.from_residual-in_err-check_gather.result ≡ Err error = search rules in
    let text = empty_text c.args.alloc in
    let conditions = sample_checks s text sample image comparison in
    sample_result s sample image comparison c.in_ok-image.ensures c.from_residual-in_err-check_gather.result text (broken_at conditions 6 (level_stages sample.level) error (c.in_ok-check_sampled_layer.ensures, (c.in_ok-check_class.ensures, (c.in_ok-check_comparison.ensures, (c.in_ok-check_coordinate.ensures, (c.in_ok-check_offset.ensures, (c.in_ok-check_depth_reference.ensures, tt)))))) c.in_err-check_gather.ensures ∙ sym is)

pub returns-in_err-check_clamp : goal.returns-in_err-check_clamp
returns-in_err-check_clamp c =
    let s = surroundings c.args.context in
    let sample = c.args.sample.now in
    let image = c.in_ok-image.image in
    let comparison = c.in_ok-image.comparison in
    let error = c.in_err-check_clamp.field-0.0 in
    let is : c.from_residual-in_err-check_clamp.result ≡ Err error = search rules in
    clamp_result s sample image comparison c.in_ok-image.ensures c.from_residual-in_err-check_clamp.result (empty_text c.args.alloc) error (λ text. (c.in_ok-check_sampled_layer.ensures, (c.in_ok-check_class.ensures, (c.in_ok-check_comparison.ensures, (c.in_ok-check_coordinate.ensures, (c.in_ok-check_offset.ensures, (c.in_ok-check_depth_reference.ensures, (c.in_ok-check_gather.ensures, tt)))))))) c.in_err-check_clamp.ensures is

pub returns-in_err-check_external : goal.returns-in_err-check_external
returns-in_err-check_external c =
    let s = surroundings c.args.context in
    let sample = c.args.sample.now in
    let image = c.in_ok-image.image in
    let comparison = c.in_ok-image.comparison in
    let error = c.in_err-check_external.field-0.0 in
    let is : c.from_residual-in_err-check_external.result ≡ Err error = search rules in
    let text = text_passed image sample c.in_ok-check_clamp.ensures in
    let conditions = sample_checks s text.0 sample image comparison in
    sample_result s sample image comparison c.in_ok-image.ensures c.from_residual-in_err-check_external.result text.0 (broken_at conditions 8 (level_stages sample.level) error (c.in_ok-check_sampled_layer.ensures, (c.in_ok-check_class.ensures, (c.in_ok-check_comparison.ensures, (c.in_ok-check_coordinate.ensures, (c.in_ok-check_offset.ensures, (c.in_ok-check_depth_reference.ensures, (c.in_ok-check_gather.ensures, (text.1, tt)))))))) c.in_err-check_external.ensures ∙ sym is)

pub returns-in_err-check_level : goal.returns-in_err-check_level
returns-in_err-check_level c =
    let s = surroundings c.args.context in
    let sample = c.args.sample.now in
    let image = c.in_ok-image.image in
    let comparison = c.in_ok-image.comparison in
    let error = c.in_err-check_level.field-0.0 in
    let is : c.from_residual-in_err-check_level.result ≡ Err error = search rules in
    let text = text_passed image sample c.in_ok-check_clamp.ensures in
    let conditions = sample_checks s text.0 sample image comparison in
    sample_result s sample image comparison c.in_ok-image.ensures c.from_residual-in_err-check_level.result text.0 (broken_at conditions 9 (level_stages sample.level) error (c.in_ok-check_sampled_layer.ensures, (c.in_ok-check_class.ensures, (c.in_ok-check_comparison.ensures, (c.in_ok-check_coordinate.ensures, (c.in_ok-check_offset.ensures, (c.in_ok-check_depth_reference.ensures, (c.in_ok-check_gather.ensures, (text.1, (c.in_ok-check_external.ensures, tt))))))))) c.in_err-check_level.ensures ∙ sym is)

pub returns : goal.returns
returns c =
    let s = surroundings c.args.context in
    let sample = c.args.sample.now in
    let image = c.in_ok-image.image in
    let comparison = c.in_ok-image.comparison in
    let text = text_passed image sample c.in_ok-check_clamp.ensures in
    let conditions = sample_checks s text.0 sample image comparison in
    sample_result s sample image comparison c.in_ok-image.ensures (Ok c.level_stages.result) text.0 (none_broken conditions (level_stages sample.level) (c.in_ok-check_sampled_layer.ensures, (c.in_ok-check_class.ensures, (c.in_ok-check_comparison.ensures, (c.in_ok-check_coordinate.ensures, (c.in_ok-check_offset.ensures, (c.in_ok-check_depth_reference.ensures, (c.in_ok-check_gather.ensures, (text.1, (c.in_ok-check_external.ensures, (c.in_ok-check_level.ensures, tt)))))))))) ∙ ap Ok (sym c.level_stages.ensures))
