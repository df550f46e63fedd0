-- Lemmas behind the answers.
pub mod Standing
pub mod Failing
pub mod Made
pub mod Doing
pub mod OverActions
pub mod Raising
