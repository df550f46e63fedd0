-- Lemmas behind the answers.
mod Nearing
mod Taking
mod Chunks
