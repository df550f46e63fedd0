-- Lemmas behind the answers.
pub mod Judging
pub mod Making
pub mod Counting
pub mod Ending
