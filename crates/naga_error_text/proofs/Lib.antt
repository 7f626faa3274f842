pub mod ShortTexts
pub mod TextLaws
pub mod WritingLaws
