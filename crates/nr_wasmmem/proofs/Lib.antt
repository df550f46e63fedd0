-- Lemmas behind the answers.
pub mod Access
