-- Definitions that the contracts cite.
pub mod Help
pub mod Arguments
pub mod Command
pub mod Plans
pub mod Running
pub mod Verdicts
pub mod Lines
pub mod Listing
pub mod Answers
pub mod Exit
