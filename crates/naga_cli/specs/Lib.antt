-- To read first:
-- Findings.IsFound: what is found of the module of a file
-- Written.IsWritten: what is written of what is found of a module, and where
-- Rows.Cover, ShowLeaves: rows have all bytes up to an end, and the leaves of a type
pub mod Accepted
pub mod Findings
pub mod Rows
pub mod Written
