use Rattle.naga_typing.proofs.CanResolve.{global_variable_exists, operand_parts_exist, operands_earlier}
use Rattle.naga_typing.proofs.FormOperands.{accepted_of_select, of_splat, of_swizzle, of_unary, left_of_binary, of_access, of_access_index, of_as, of_load, right_of_binary}
use Rattle.naga_typing.proofs.pushing.push_full.Goals as goal

pub push_part-requires-clause-earlier : goal.push_part-requires-clause-earlier
push_part-requires-clause-earlier c = operands_earlier _ _ _ c.requires _ (of_access _ _ _ c.in-Access.is)

pub push_part-requires-clause-parts : goal.push_part-requires-clause-parts
push_part-requires-clause-parts c = operand_parts_exist _ _ _ c.requires _

pub push_part-requires-in-AccessIndex-clause-earlier : goal.push_part-requires-in-AccessIndex-clause-earlier
push_part-requires-in-AccessIndex-clause-earlier c = operands_earlier _ _ _ c.requires _ (of_access_index _ _ _ c.in-AccessIndex.is)

pub push_part-requires-in-AccessIndex-clause-parts : goal.push_part-requires-in-AccessIndex-clause-parts
push_part-requires-in-AccessIndex-clause-parts c = operand_parts_exist _ _ _ c.requires _

pub push_splat-requires-clause-earlier : goal.push_splat-requires-clause-earlier
push_splat-requires-clause-earlier c = operands_earlier _ _ _ c.requires _ (of_splat _ _ _ c.in-Splat.is)

pub push_swizzle-requires-clause-earlier : goal.push_swizzle-requires-clause-earlier
push_swizzle-requires-clause-earlier c = operands_earlier _ _ _ c.requires _ (of_swizzle _ _ _ _ c.in-Swizzle.is)

pub index-requires : goal.index-requires
index-requires c = global_variable_exists _ _ _ c.requires _ c.in-GlobalVariable.is

pub push_load-requires-clause-earlier : goal.push_load-requires-clause-earlier
push_load-requires-clause-earlier c = operands_earlier _ _ _ c.requires _ (of_load _ _ c.in-Load.is)

pub push_load-requires-clause-parts : goal.push_load-requires-clause-parts
push_load-requires-clause-parts c = operand_parts_exist _ _ _ c.requires _

pub push_same-requires-clause-earlier : goal.push_same-requires-clause-earlier
push_same-requires-clause-earlier c = operands_earlier _ _ _ c.requires _ (of_unary _ _ _ c.in-Unary.is)

pub push_same-requires-in-Select-clause-earlier : goal.push_same-requires-in-Select-clause-earlier
push_same-requires-in-Select-clause-earlier c = operands_earlier _ _ _ c.requires _ (accepted_of_select _ _ _ _ c.in-Select.is)

pub push_binary-requires-clause-left_earlier : goal.push_binary-requires-clause-left_earlier
push_binary-requires-clause-left_earlier c = operands_earlier _ _ _ c.requires _ (left_of_binary _ _ _ _ c.in-Binary.is)

pub push_binary-requires-clause-right_earlier : goal.push_binary-requires-clause-right_earlier
push_binary-requires-clause-right_earlier c = operands_earlier _ _ _ c.requires _ (right_of_binary _ _ _ _ c.in-Binary.is)

pub push_cast-requires-clause-earlier : goal.push_cast-requires-clause-earlier
push_cast-requires-clause-earlier c = operands_earlier _ _ _ c.requires _ (of_as _ _ _ _ c.in-As.is)
