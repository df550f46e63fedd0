-- Definitions that the contracts cite.
pub mod Leb
pub mod Fields
pub mod Parts
pub mod Expressions
pub mod Modules
pub mod Grammar
pub mod Kinds
