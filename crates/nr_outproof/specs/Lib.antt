-- Definitions that the contracts cite.
pub mod Items
pub mod Fitting
pub mod Tree
pub mod Leaves
pub mod Levels
pub mod Proofs
pub mod Texts
pub mod Meeting
