-- Definitions that the contracts cite.
pub mod Rows
pub mod Reports
pub mod Texts
pub mod Sums
pub mod Fitting
pub mod Totals
pub mod Props
