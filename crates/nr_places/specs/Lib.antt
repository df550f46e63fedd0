-- Definitions that the contracts cite.
pub mod Places
pub mod Moments
pub mod Totals
pub mod Replay
