-- Definitions that the contracts cite.
pub mod Costs
pub mod Refusals
pub mod Conversion
pub mod Parts
pub mod Keeping
