-- Lemmas behind the answers.
pub mod Maps
pub mod Worlds
pub mod Cuts
pub mod Derived
