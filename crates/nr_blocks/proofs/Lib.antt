-- Lemmas behind the answers.
pub mod Turns
mod LastFirst
mod Pieces
pub mod Outlined
mod Entries
mod Grouped
mod Stated
mod Ranked
mod Spellings
pub mod Filling
pub mod Sound
pub mod Founded
pub mod ValidFirst
