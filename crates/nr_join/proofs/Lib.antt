-- Lemmas behind the answers.
pub mod Inputs
pub mod Freed
pub mod Moves
pub mod Cases
pub mod OverOffering
