-- Lemmas behind the laws.
mod Grown
mod Serially
