-- Definitions that the contracts cite.
pub mod Forest
pub mod Forks
pub mod Growing
pub mod Hashed
