-- Definitions that the contracts cite.
pub mod Layout
pub mod Reading
pub mod LayoutLaw
