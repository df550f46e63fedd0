-- Definitions that the contracts cite.
pub mod Part
pub mod Proof
pub mod Receipt
pub mod Gathered
