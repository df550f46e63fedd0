-- Definitions that the contracts cite.
pub mod Gathered
pub mod Sweeping
