-- Definitions that the contracts cite.
pub mod Turns
pub mod Draws
pub mod Names
pub mod Code
pub mod Founding
pub mod Chain
