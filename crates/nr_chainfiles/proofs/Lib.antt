-- Lemmas behind the answers.
pub mod Asking
pub mod WithBytes
