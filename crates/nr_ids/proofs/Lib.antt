-- Lemmas behind the answers.
pub mod Ids
pub mod Keys
pub mod Places
pub mod SubIds
pub mod System
