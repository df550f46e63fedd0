-- Definitions that the contracts cite.
pub mod Setting
pub mod Texts
