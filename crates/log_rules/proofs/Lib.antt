-- Laws of this crate's definitions.
pub mod Tests
pub mod Singles
pub mod Asking
pub mod Feeding
