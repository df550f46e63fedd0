-- Lemmas behind the laws.
mod Keeping
