-- Lemmas behind the answers.
pub mod BothLegs
pub mod Digesting
pub mod Arrival
pub mod Entered
pub mod PartAsking
pub mod PartLoading
pub mod PartAnswers
pub mod Asking
pub mod Digests
pub mod Present
pub mod Named
pub mod RecheckAnswers
pub mod WithBytes
