-- Lemmas behind the answers.
pub mod Amounts
pub mod Halves
pub mod Whole
pub mod Loops
pub mod Only
pub mod PlainLaws
pub mod RecordLaws
pub mod FileLaws
pub mod ChainLaws
