-- Lemmas behind the answers.
pub mod Parts
pub mod Each
pub mod Children
pub mod Laws
