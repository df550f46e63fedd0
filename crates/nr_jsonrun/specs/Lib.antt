-- Definitions that the contracts cite.
pub mod Command
pub mod Words
pub mod Plans
