-- Definitions that the contracts cite.
pub mod Node
pub mod Root
pub mod Stores
pub mod Reading
