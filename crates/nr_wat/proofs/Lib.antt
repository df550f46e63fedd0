-- Lemmas behind the answers.
pub mod Joined
pub mod Numbered
pub mod Counts
pub mod Back
pub mod Turns
pub mod Listed
