-- Lemmas behind the answers.
pub mod Empty
pub mod Tables
pub mod Laid
pub mod ReadBack
pub mod Steps
pub mod KeyLists
pub mod Owners
pub mod InOrder
pub mod SpelledKeys
pub mod InPlace
