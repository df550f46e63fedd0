-- Lemmas behind the answers.
pub mod Lists
pub mod Handing
pub mod Small
pub mod Underway
pub mod Amounts
pub mod Giving
pub mod Stepping
pub mod Concluding
pub mod Executing
pub mod Whole
pub mod OverExecution
