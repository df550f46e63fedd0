-- Lemmas behind the answers.
pub mod Runs
pub mod Listed
pub mod Methods
pub mod Asking
pub mod Ending
