-- Lemmas behind the answers.
pub mod Asking
pub mod Steps
pub mod Retold
