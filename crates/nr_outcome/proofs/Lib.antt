-- Lemmas behind the answers.
pub mod Lists
pub mod Cells
pub mod Above
pub mod Adding
pub mod Counted
pub mod Steps
