-- Definitions that the contracts cite.
pub mod Typed
pub mod Steps
