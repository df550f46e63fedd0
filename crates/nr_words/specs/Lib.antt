-- Definitions that the contracts cite.
pub mod Numbers
pub mod Pieces
pub mod Forms
pub mod Kinds
pub mod Command
pub mod Words
pub mod Parsing
