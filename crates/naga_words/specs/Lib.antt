-- To read first:
-- Tables: the values that words stand for
-- Operands: the value of one operand, or of a few that belong together
-- Texts.text_of, name_of: the text or the name with which words begin
-- Types.type_of, Expressions.expression_of, Statements.mark_of: the value of an opcode or a form and its operands
-- Items.item_of, part_of: the item of an opcode and its operands
-- Words.items_of, IsWords: what words say
-- Words.IsFirstUnreadable: the first item that can't be read
-- Writing.item, item_words: the opcode and the operands of an item, and its words
-- ModuleWords.words_of, CanBeSaid: the words of a module, if words can say it; AreSame: contents that differ in the room of vectors at most
pub mod Expressions
pub mod Items
pub mod ModuleWords
pub mod Numbers
pub mod Operands
pub mod Reading
pub mod Statements
pub mod Tables
pub mod Texts
pub mod Types
pub mod Words
pub mod Writing
pub mod steps
