-- Lemmas behind the answers.
pub mod Crossing
pub mod Stretches
pub mod Whole
