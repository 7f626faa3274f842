mod Acceptance
mod Calls
mod Declarations
mod Functions
mod Validation
