-- Lemmas behind the answers.
pub mod Completing
pub mod Couples
pub mod Entering
pub mod Fitting
pub mod Narrowing
pub mod Orders
pub mod Pairs
pub mod Passing
pub mod Placing
pub mod Rows
pub mod Searches
pub mod Showing
pub mod ShownMaps
pub mod Spots
pub mod Stepping
pub mod Tops
pub mod Walks
