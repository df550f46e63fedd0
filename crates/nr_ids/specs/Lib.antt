-- Definitions that the contracts cite.
pub mod CompactBytes
pub mod Derive
pub mod Grammar
pub mod Keys
