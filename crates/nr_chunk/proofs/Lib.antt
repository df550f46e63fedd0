-- Lemmas behind the answers.
pub mod Values
pub mod Converted
pub mod Tallied
pub mod Lent
pub mod OverChunk
pub mod Localized
pub mod Started
pub mod Small
