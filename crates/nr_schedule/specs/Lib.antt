-- Definitions that the contracts cite.
pub mod Schedule
pub mod Checking
pub mod Moments
pub mod Driving
pub mod Laws
