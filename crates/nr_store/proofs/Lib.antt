-- Lemmas behind the answers.
pub mod Held
pub mod Rewind
pub mod Links
pub mod Orders
pub mod Levels
pub mod Listed
pub mod Prefixes
pub mod Nibbles
pub mod Waiting
pub mod Sizes
