-- Lemmas behind the answers.
mod Levels
mod Sweeps
mod Turning
mod Held
mod Looked
mod Results
pub mod Fewer
