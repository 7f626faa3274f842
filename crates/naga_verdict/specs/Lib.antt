-- To read first:
-- Lines.lines_text: the lines for people that say what is found of a module
-- Objects.IsObject: the object of JSON that says it
-- Verdicts.status_of: the exit status
pub mod Items
pub mod Lines
pub mod Objects
pub mod Verdicts
