-- Definitions that the contracts cite.
pub mod Ready
pub mod Refused
pub mod Sound
pub mod Burning
