-- Definitions that the contracts cite.
pub mod Rules
pub mod Serial
pub mod Lawful
pub mod Inside
pub mod Positions
pub mod Moves
pub mod Moment
pub mod Held
pub mod CoreView
pub mod Run
pub mod Balance
pub mod Next
pub mod Whole
pub mod Cut
pub mod Led
pub mod Outcome
