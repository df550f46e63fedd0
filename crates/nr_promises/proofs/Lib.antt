-- Lemmas behind the answers.
pub mod Changed
pub mod MadeAfter
pub mod Books
pub mod Keeping
pub mod Gathering
pub mod Outputs
