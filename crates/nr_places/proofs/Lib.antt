-- Lemmas behind the laws.
pub mod Waiting
pub mod Opening
pub mod Kept
pub mod Lines
pub mod Counting
pub mod Adding
pub mod Counts
pub mod Sums
pub mod Founded
pub mod Placed
pub mod Replay
