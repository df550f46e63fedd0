-- Definitions that the contracts cite.
pub mod Accounts
pub mod Changing
