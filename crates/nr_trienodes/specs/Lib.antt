-- Definitions that the contracts cite.
pub mod Shape
pub mod Views
pub mod Tries
pub mod Roots
pub mod Turns
pub mod Hashing
pub mod Listing
pub mod Naming
pub mod Packing
pub mod NodeBytes
pub mod SharedBytes
pub mod WideBytes
pub mod Bodies
pub mod Own
pub mod Merging
pub mod Opened
