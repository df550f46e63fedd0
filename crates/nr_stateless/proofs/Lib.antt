-- Lemmas behind the answers.
pub mod ByKeys
pub mod FoundEntries
pub mod Replacing
