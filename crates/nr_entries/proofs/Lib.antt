-- Lemmas behind the answers.
pub mod ColumnSums
pub mod Columns
pub mod Contents
pub mod Counts
pub mod Listed
pub mod Names
pub mod Rising
pub mod Splitting
pub mod Sums
pub mod UsageSums
