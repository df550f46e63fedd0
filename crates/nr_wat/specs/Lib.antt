-- Definitions that the contracts cite.
pub mod Names
pub mod Pieces
pub mod Instructions
pub mod Fields
