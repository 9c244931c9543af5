-- What the contracts of this crate, and of the search, cite.
pub mod Map
