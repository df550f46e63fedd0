-- Lemmas behind the answers.
pub mod Answering
pub mod Guests
pub mod Indices
pub mod Limits
pub mod Spending
pub mod Standing
pub mod ZeroEnded
