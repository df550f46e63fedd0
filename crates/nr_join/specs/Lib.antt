-- Definitions that the contracts cite.
pub mod Offering
pub mod Parts
pub mod Keeping
