-- Definitions that the contracts cite.
pub mod Files
pub mod FileLaws
pub mod Judging
pub mod Spellings
pub mod Outlines
