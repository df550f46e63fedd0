-- Definitions that the contracts cite.
pub mod Totals
pub mod Run
pub mod Generated
pub mod Moments
pub mod Arriving
pub mod Works
pub mod Chunks
pub mod Roots
pub mod Proving
pub mod StateParts
pub mod Gathering
pub mod Plans
pub mod Answers
pub mod Exit
pub mod Rechecking
