-- To read first:
-- Items.said_by, said_by_part, sections: what an item says, and to which function or entry point a part belongs
-- Bodies.IsBody: which marks say a body
-- Modules.Say, CanBegin: the module and settings that items say together; which items can begin a module
-- Drafts.AreAdded: which items were added to a draft
pub mod Bodies
pub mod BodyParts
pub mod Drafts
pub mod Items
pub mod Modules
pub mod OpenBlocks
pub mod OpenFunctions
