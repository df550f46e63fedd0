-- Lemmas behind the answers.
pub mod Parts
pub mod Fits
pub mod Beside
pub mod Moves
