-- Lemmas behind the answers.
pub mod Filed
