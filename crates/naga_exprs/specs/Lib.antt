-- To read first:
-- ConstExpression.literal_rule: which literals are accepted
-- ConstExpression.ConstSurroundings: what the validation of a global expression depends on, besides the expression
-- ConstExpression.const_expression_rule: which global expressions are accepted, and the
-- first condition that another breaks
-- ExpressionRule.IsRule: the rule of an expression of a function, by its variant
-- ExpressionRule.IsExpressionResult: what a call returns for an expression, out of memory aside
-- ExpressionRule.is_frequent: which variants of expressions a call checks that returns only
-- whether every stage may use them
-- Accesses.IsAccessRule: the rule of an access at an index that is computed
-- Accesses.access_index_rule: the rule of an access at a known index
-- Vectors.swizzle_rule: the rule of a swizzle
-- Memory.load_rule, cooperative_load_rule, array_length_rule: the rules of loads and of the lengths of arrays
-- RayQueries.points_to_ray_query: through which pointers a ray query is read
-- Values: the rules of literals, zero values, compositions, splats, arguments, and the results of
-- calls and of loads for a workgroup
-- Math.math_rule: the rule of mathematical functions, by what a typing says of their arguments
-- MoreCapabilities.AllowsMore: when an expression is validated with more capabilities, and all else is the same
pub mod Accesses
pub mod ConstExpression
pub mod ExpressionRule
pub mod Math
pub mod Memory
pub mod MoreCapabilities
pub mod RayQueries
pub mod Values
pub mod Vectors
