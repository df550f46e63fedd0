-- Definitions that the contracts cite.
pub mod Refusing
pub mod Sending
pub mod Sends
