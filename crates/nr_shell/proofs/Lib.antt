-- Lemmas behind the answers.
pub mod Growth
pub mod Loaded
pub mod Ends
pub mod Leading
pub mod WithBytes
