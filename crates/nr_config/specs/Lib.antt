-- Definitions that the contracts cite.
pub mod Table
pub mod Config
pub mod Rows
pub mod Reading
