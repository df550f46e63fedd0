-- Definitions that the contracts cite.
pub mod Course
pub mod Totals
pub mod Texts
