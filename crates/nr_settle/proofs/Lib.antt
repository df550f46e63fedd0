-- Lemmas behind the answers.
pub mod Moments
