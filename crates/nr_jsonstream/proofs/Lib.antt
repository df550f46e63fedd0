-- Lemmas behind the answers.
pub mod Numbers
pub mod Reading
pub mod Records
pub mod Trees
