-- Lemmas behind the answers.
mod Sound
mod Outlined
