-- Lemmas behind the answers.
pub mod Steps
pub mod Sums
pub mod Held
pub mod Depths
pub mod RoundTrip
pub mod Asking
pub mod Third
pub mod Stops
pub mod Last
