-- Lemmas behind the answers.
pub mod Valid
pub mod Built
pub mod Bounds
mod Loop
mod Objects
