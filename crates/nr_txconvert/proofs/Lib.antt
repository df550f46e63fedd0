-- Lemmas behind the answers.
pub mod Costing
pub mod Charging
pub mod Paying
pub mod Converting
pub mod OverConversion
