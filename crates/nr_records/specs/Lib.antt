-- Definitions that the contracts cite.
pub mod Fault
pub mod Reading
pub mod Ids
pub mod Options
pub mod Accounts
pub mod AccessKeys
pub mod Actions
pub mod Transactions
pub mod Receipts
pub mod IdLaws
pub mod OptionLaw
pub mod AccessKeyLaws
pub mod ActionLaw
pub mod AccountLaw
pub mod TransactionLaw
pub mod ReceiptLaws
