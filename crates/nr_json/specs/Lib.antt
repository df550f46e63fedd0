-- Definitions that the contracts cite.
pub mod Faults
pub mod Words
pub mod Members
pub mod Plain
pub mod Base58
pub mod Keys
pub mod Lists
pub mod Variants
pub mod Shown
pub mod AccessKeys
pub mod Actions
pub mod Transactions
pub mod Blocks
pub mod ChainFiles
pub mod Genesis
pub mod Fits
pub mod FitsFiles
