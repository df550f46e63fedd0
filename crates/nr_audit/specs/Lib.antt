-- Definitions that the contracts cite.
pub mod Archive
pub mod Help
pub mod Command
pub mod Plans
pub mod Answers
pub mod Exit
