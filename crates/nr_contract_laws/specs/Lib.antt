-- Definitions that the contracts cite.
pub mod Ending
pub mod Numbers
pub mod Moments
