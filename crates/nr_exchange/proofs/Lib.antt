-- Lemmas behind the answers.
pub mod Noted
pub mod Lists
pub mod Counts
pub mod PlaceLemmas
pub mod Keeps
pub mod Loads
pub mod Looked
pub mod Asking
pub mod Giving
pub mod Adds
pub mod Rooms
pub mod Puts
pub mod Seating
pub mod Makes
pub mod Parting
pub mod Claimed
pub mod Ties
