use Rattle.naga_typing.proofs.CanResolve.{function_exists, global_variable_exists, operand_parts_exist, operands_earlier}
use Rattle.naga_typing.proofs.FormOperands.{image_of_load, image_of_query, image_of_sample, left_of_binary, of_access, of_access_index, of_as, of_cooperative_load, first_of_math, of_load, right_of_binary, summand_of_product}
use Rattle.naga_typing.proofs.full_typing.resolve_full.Goals as goal

pub operand-requires-clause-earlier : goal.operand-requires-clause-earlier
operand-requires-clause-earlier c = operands_earlier _ _ _ c.requires _ (of_access _ _ _ c.in-Access.is)

pub part_in-requires : goal.part_in-requires
part_in-requires c = operand_parts_exist _ _ _ c.requires _ _ c.operand.ensures

pub operand-requires-in-AccessIndex-clause-earlier : goal.operand-requires-in-AccessIndex-clause-earlier
operand-requires-in-AccessIndex-clause-earlier c = operands_earlier _ _ _ c.requires _ (of_access_index _ _ _ c.in-AccessIndex.is)

pub part_in-requires-in-AccessIndex : goal.part_in-requires-in-AccessIndex
part_in-requires-in-AccessIndex c = operand_parts_exist _ _ _ c.requires _ _ c.operand-in-AccessIndex.ensures

pub index-variable-requires : goal.index-variable-requires
index-variable-requires c = global_variable_exists _ _ _ c.requires _ c.in-GlobalVariable.is

pub operand-requires-in-Load-clause-earlier : goal.operand-requires-in-Load-clause-earlier
operand-requires-in-Load-clause-earlier c = operands_earlier _ _ _ c.requires _ (of_load _ _ c.in-Load.is)

pub load_of-requires : goal.load_of-requires
load_of-requires c = operand_parts_exist _ _ _ c.requires _ _ c.operand-in-Load.ensures

pub operand-requires-in-ImageSample-clause-earlier : goal.operand-requires-in-ImageSample-clause-earlier
operand-requires-in-ImageSample-clause-earlier c = operands_earlier _ _ _ c.requires _ (image_of_sample _ _ _ _ _ _ _ _ _ _ c.in-ImageSample.is)

pub operand-requires-in-ImageLoad-clause-earlier : goal.operand-requires-in-ImageLoad-clause-earlier
operand-requires-in-ImageLoad-clause-earlier c = operands_earlier _ _ _ c.requires _ (image_of_load _ _ _ _ _ _ c.in-ImageLoad.is)

pub operand-requires-in-ImageQuery-clause-earlier : goal.operand-requires-in-ImageQuery-clause-earlier
operand-requires-in-ImageQuery-clause-earlier c = operands_earlier _ _ _ c.requires _ (image_of_query _ _ _ c.in-ImageQuery.is)

pub full_binary_of-requires-clause-left_earlier : goal.full_binary_of-requires-clause-left_earlier
full_binary_of-requires-clause-left_earlier c = operands_earlier _ _ _ c.requires _ (left_of_binary _ _ _ _ c.in-Binary.is)

pub full_binary_of-requires-clause-right_earlier : goal.full_binary_of-requires-clause-right_earlier
full_binary_of-requires-clause-right_earlier c = operands_earlier _ _ _ c.requires _ (right_of_binary _ _ _ _ c.in-Binary.is)

pub operand-requires-in-As-clause-earlier : goal.operand-requires-in-As-clause-earlier
operand-requires-in-As-clause-earlier c = operands_earlier _ _ _ c.requires _ (of_as _ _ _ _ c.in-As.is)

pub index-requires : goal.index-requires
index-requires c = function_exists _ _ _ c.requires _ c.in-CallResult.is

pub same_type-requires-clause-earlier : goal.same_type-requires-clause-earlier
same_type-requires-clause-earlier c = operands_earlier _ _ _ c.requires _ (summand_of_product _ _ _ _ c.in-CooperativeMultiplyAdd.is)

pub operand-requires-in-Math-clause-earlier : goal.operand-requires-in-Math-clause-earlier
operand-requires-in-Math-clause-earlier c = operands_earlier _ _ _ c.requires _ (first_of_math _ _ _ _ _ _ c.in-Math.is)

pub operand-requires-in-CooperativeLoad-clause-earlier : goal.operand-requires-in-CooperativeLoad-clause-earlier
operand-requires-in-CooperativeLoad-clause-earlier c = operands_earlier _ _ _ c.requires _ (of_cooperative_load _ _ _ _ c.in-CooperativeLoad.is)

pub cooperative_load_of-requires : goal.cooperative_load_of-requires
cooperative_load_of-requires c = operand_parts_exist _ _ _ c.requires _ _ c.operand-in-CooperativeLoad.ensures
