-- Definitions that the contracts cite.
pub mod Functions
pub mod Reduction
pub mod Place
pub mod Thread
pub mod Executing
pub mod Machine
pub mod Rows
pub mod Making
pub mod Standing
pub mod Gauge
