-- Definitions that the contracts cite.
pub mod Looked
pub mod Looking
pub mod Searched
pub mod Shown
pub mod Sought
pub mod Texts
pub mod Told
pub mod Tries
pub mod Walking
