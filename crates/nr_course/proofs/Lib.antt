-- Lemmas behind the answers.
pub mod Files
pub mod Ends
pub mod Sums
