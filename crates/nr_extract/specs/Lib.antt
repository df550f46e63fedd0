-- Definitions that the contracts cite.
pub mod Reaching
pub mod Chunk
pub mod Shown
