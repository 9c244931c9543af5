-- The laws of this crate.
pub mod LoopLaws
pub mod TrialLaws
