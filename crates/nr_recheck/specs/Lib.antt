-- Definitions that the contracts cite.
pub mod Bounds
pub mod Laws
pub mod Rechecking
pub mod Running
