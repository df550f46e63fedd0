-- Lemmas behind the answers.
pub mod Both
pub mod Numerals
pub mod Pieces
pub mod Plain
pub mod Places
pub mod Tables
pub mod Parsed
pub mod Fits
pub mod Steps
pub mod Subcommands
