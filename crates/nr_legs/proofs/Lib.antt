-- Lemmas behind the answers.
pub mod Ends
pub mod Left
pub mod Going
