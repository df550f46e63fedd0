-- Definitions that the contracts cite.
pub mod GenesisFiles
pub mod BlocksFiles
pub mod Files
pub mod Outlines
pub mod EntryLaws
pub mod BlockLaws
pub mod FileLaws
pub mod Genesis
pub mod Judging
pub mod Spellings
pub mod Parts
pub mod Filling
pub mod Groups
pub mod Apart
