-- Definitions that the contracts cite.
pub mod Contents
pub mod Forks
pub mod Plain
pub mod PlainView
pub mod Tries
