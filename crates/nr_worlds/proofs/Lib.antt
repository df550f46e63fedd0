-- Lemmas behind the answers.
pub mod AccountsTold
pub mod Adding
pub mod Fewer
pub mod Passing
pub mod QueueTold
pub mod Queues
pub mod Repeated
pub mod Sound
pub mod Tested
pub mod ToldAgain
pub mod WaitingReceipts
pub mod WaitingTold
pub mod WorldTold
