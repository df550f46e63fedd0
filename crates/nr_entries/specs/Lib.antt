-- Definitions that the contracts cite.
pub mod Counting
pub mod Order
pub mod Told
