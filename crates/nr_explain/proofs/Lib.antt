-- Lemmas behind the answers.
pub mod Objects
pub mod FirstForm
pub mod NthEntry
pub mod Rows
pub mod Spacing
