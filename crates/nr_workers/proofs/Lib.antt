-- Lemmas behind the answers.
pub mod Each
pub mod Orders
pub mod Takings
pub mod Inboxes
pub mod Pairs
pub mod Rows
pub mod Moves
pub mod Slots
pub mod Fresh
pub mod Crossing
pub mod Returned
pub mod Finishing
pub mod Counted
pub mod InHand
pub mod Homes
