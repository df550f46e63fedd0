-- Definitions that the contracts cite.
pub mod Book
pub mod Making
pub mod Joining
pub mod Keeping
