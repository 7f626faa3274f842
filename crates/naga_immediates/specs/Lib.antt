-- To read first:
-- Slots.HasSlot, UsesSlot: which slots a set has, and which a type uses by the parts that its members lead to
-- SlotText.runs, slot_text: the maximal runs of a set, and how they are shown
-- Slots.Touches, immediate_size: what a pointer reaches, and the size of a module's immediate data
pub mod LeafSlots
pub mod SlotText
pub mod Slots
pub mod steps
