-- Lemmas behind the answers.
pub mod Segments
pub mod Branches
pub mod Plugged
pub mod Turning
pub mod Signatures
pub mod Effects
pub mod Paying
pub mod Room
pub mod Linked
pub mod Sound
pub mod Putting
pub mod Made
pub mod Named
