-- What is known before functions of the library are called.
pub mod Accepted
pub mod Calls
