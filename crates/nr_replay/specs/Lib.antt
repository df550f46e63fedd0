-- Definitions that the contracts cite.
pub mod Chains
pub mod Stretches
