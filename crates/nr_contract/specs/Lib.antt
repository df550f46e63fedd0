-- Definitions that the contracts cite.
pub mod Runs
pub mod Verdicts
pub mod Loading
pub mod Preparing
pub mod Contract
pub mod Calls
pub mod Law
pub mod Mapped
pub mod LocalCalls
