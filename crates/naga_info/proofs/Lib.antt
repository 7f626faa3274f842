pub mod Forms
pub mod FunctionTypes
pub mod IntegerSources
pub mod KeptSources
pub mod KindOperands
pub mod Places
