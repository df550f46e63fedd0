-- Definitions that the contracts cite.
pub mod Agreeing
pub mod Checking
pub mod Cutting
pub mod Files
pub mod Joining
pub mod Offsets
pub mod Sweeping
pub mod Walking
