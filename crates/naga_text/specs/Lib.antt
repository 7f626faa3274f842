-- To read first:
-- Words.lines_of, words_of, pieces_of, number_up_to, integer_up_to: how bytes part into lines, words and pieces,
-- and the numbers that words write
-- LineWords.words_left, lines_after: the words of a line that a reader still has to read, and the lines after it
-- Tables.chosen, kinds, spaces, classes: the words that stand for values
-- Forms.type_form, expression_form, form, IsForm: how each type, each expression and each line is written
-- WordForms.size_of, array_size_of, optional_of: what the readers of one word return
-- ExpressionReaders.literal_of, expression_of: what the readers of literals and of expressions return
-- Text.has_content, module_of, contents_of: which lines say something, and what lines say together
-- Text.AreConsistent: which lines can make one text
-- Text.IsText, IsFirstUnreadable: what a text says, or its first line that can't be read
-- ErrorNames.text_error_name: the name of each variant of an error
pub mod Bytes
pub mod ErrorNames
pub mod ExpressionReaders
pub mod Forms
pub mod LineWords
pub mod Tables
pub mod Text
pub mod WordForms
pub mod Words
pub mod steps
