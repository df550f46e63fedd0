-- Lemmas behind the answers.
mod Standing
mod Opening
mod Over
mod Turning
