-- Definitions that the contracts cite.
pub mod Failures
pub mod Refunds
pub mod Accounts
pub mod Calling
pub mod Actions
pub mod Parts
pub mod Keeping
