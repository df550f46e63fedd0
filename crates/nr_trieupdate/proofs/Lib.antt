-- Lemmas behind the answers.
pub mod Standing
pub mod Counting
pub mod Overlays
pub mod Layers
pub mod Stored
pub mod Moved
pub mod Drafts
