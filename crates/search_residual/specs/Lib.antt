-- What the contract of the residual search cites. Read search_residual_trial's Trying, then Answer; search_residual_spec has what the answer means.
pub mod Answer
pub mod Told
