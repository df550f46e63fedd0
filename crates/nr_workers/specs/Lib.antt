-- Definitions that the contracts cite.
pub mod Each
pub mod Outcome
pub mod Taking
pub mod Left
pub mod Stages
pub mod Shards
pub mod Shares
pub mod Crew
pub mod Standing
pub mod Hands
