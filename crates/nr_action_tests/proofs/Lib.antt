-- Lemmas behind the answers.
pub mod Sounding
pub mod Starting
