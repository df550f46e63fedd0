-- Definitions that the contracts cite.
pub mod Help
pub mod Command
pub mod Versions
pub mod Damage
pub mod Lines
pub mod Filling
pub mod Due
pub mod Plans
pub mod Answers
pub mod Exit
