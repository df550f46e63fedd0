-- Lemmas behind the laws.
mod Numbers
mod Lists
mod Effects
pub mod Preserved
mod First
mod Constants
mod Machines
