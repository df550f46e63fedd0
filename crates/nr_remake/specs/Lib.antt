-- Definitions that the contracts cite.
pub mod Forks
pub mod Marks
pub mod Merging
