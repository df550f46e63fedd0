-- Lemmas behind the answers.
pub mod Asking
pub mod Files
pub mod Alike
