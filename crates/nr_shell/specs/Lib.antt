-- Definitions that the contracts cite.
pub mod Plans
pub mod Answers
pub mod Writing
pub mod Classes
pub mod Exit
