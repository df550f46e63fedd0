-- Lemmas behind the answers.
mod Steps
mod Found
mod Joined
mod Worlds
mod Split
