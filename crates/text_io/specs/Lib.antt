-- What the contracts of text_io say.
pub mod Reader
