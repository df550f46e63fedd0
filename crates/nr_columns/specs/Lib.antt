-- Definitions that the contracts cite.
pub mod Orders
pub mod Keys
pub mod Tables
pub mod Columns
pub mod View
pub mod Codes
pub mod Entries
pub mod SpelledKeys
pub mod Slots
