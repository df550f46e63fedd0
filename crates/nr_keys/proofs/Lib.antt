-- Lemmas behind the answers.
pub mod SpelledNames
pub mod LentKeys
pub mod ChangedKeys
