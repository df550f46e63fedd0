-- Definitions that the contracts cite.
pub mod Numbers
pub mod Reading
pub mod Answers
pub mod Fields
pub mod Writing
pub mod Spelling
pub mod Lending
pub mod Outside
pub mod Memory
pub mod Files
