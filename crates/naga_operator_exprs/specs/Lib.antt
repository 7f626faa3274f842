-- To read first:
-- Binary.IsBinaryRule: the rule of an operator on two values
-- Product.can_multiply: which types multiply
-- Integers.ContainsForbidden: the forbidden integers in a constant expression
-- Operators: the rules of all other operators
-- Cooperative.cooperative_multiply_add_rule: the rule of `a * b + c` of cooperative matrices
pub mod Binary
pub mod Cooperative
pub mod Integers
pub mod Operators
pub mod Product
pub mod steps
