-- Definitions that the contracts cite.
pub mod Cut
pub mod Laws
