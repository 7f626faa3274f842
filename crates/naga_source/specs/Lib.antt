-- To read first:
-- Reading.IsReadOf: what is read of a file in the line text; it rests on naga_text's IsText and IsFirstUnreadable
pub mod Reading
