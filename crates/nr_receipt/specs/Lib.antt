-- Definitions that the contracts cite.
pub mod Frames
pub mod Running
pub mod Rewards
pub mod Drawing
pub mod Execution
pub mod Parts
pub mod Keeping
