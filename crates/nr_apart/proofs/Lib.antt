-- Lemmas behind the answers.
mod Only
pub mod Chunks
pub mod Firsts
