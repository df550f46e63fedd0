-- Lemmas behind the answers.
pub mod Boundaries
pub mod Counting
pub mod Parts
