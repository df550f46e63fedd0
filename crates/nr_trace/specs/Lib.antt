-- Where the instructions of a module stand, and the trail of a run.
pub mod Offsets
pub mod Trail
pub mod Tracing
