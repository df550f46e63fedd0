-- Definitions that the contracts cite.
pub mod Plan
pub mod SerialPlan
pub mod Laws
pub mod Notes
pub mod Places
pub mod Rule
pub mod Steps
pub mod Views
pub mod Seats
pub mod Ports
