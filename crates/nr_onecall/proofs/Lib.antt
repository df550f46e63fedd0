-- Lemmas behind the answers.
pub mod Floats
pub mod Ids
pub mod Standing
pub mod Stored
