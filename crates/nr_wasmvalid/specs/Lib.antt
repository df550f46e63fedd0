-- Definitions that the contracts cite.
pub mod Faults
pub mod Kinds
pub mod Parts
pub mod Modules
pub mod Rules
pub mod Typing
pub mod Shapes
pub mod Frames
pub mod Verdict
pub mod Running
