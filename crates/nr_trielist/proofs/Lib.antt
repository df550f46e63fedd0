-- Lemmas behind the answers.
pub mod Branches
pub mod Listing
