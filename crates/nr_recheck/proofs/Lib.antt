-- Lemmas behind the answers.
pub mod Answering
pub mod Chunks
pub mod Firsts
pub mod Parts
pub mod Prepared
pub mod Replaced
pub mod Searching
pub mod Shown
pub mod Starts
pub mod Sums
pub mod Telling
