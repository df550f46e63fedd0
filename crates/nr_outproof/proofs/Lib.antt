-- Lemmas behind the answers.
pub mod Tops
pub mod Ways
pub mod Paths
pub mod Climbing
pub mod Places
pub mod Differing
pub mod Ascending
pub mod Accepting
pub mod FalseProofs
pub mod ItemLaws
pub mod TextLines
pub mod Judging
pub mod RoundTrip
pub mod OnlyText
