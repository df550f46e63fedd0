-- Definitions that the contracts cite.
pub mod BaseView
pub mod Bases
pub mod Moving
pub mod Overlays
pub mod Room
pub mod Tries
pub mod View
