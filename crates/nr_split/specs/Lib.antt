-- Definitions that the contracts cite.
pub mod Owned
pub mod Split
