-- Lemmas behind the answers.
pub mod Changed
pub mod MarkedLevels
pub mod MergedMarks
pub mod Spreading
