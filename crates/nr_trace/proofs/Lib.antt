-- Lemmas behind the answers.
pub mod OnOffsets
pub mod OnTrails
