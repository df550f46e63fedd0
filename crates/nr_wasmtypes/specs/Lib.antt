-- Definitions that the contracts cite.
pub mod Code
pub mod Coding
pub mod Body
pub mod Runs
pub mod Tables
pub mod Opcodes
pub mod Host
