-- Lemmas behind the answers.
pub mod Steps
pub mod Pieces
pub mod Standing
pub mod Within
pub mod Onward
pub mod Drives
pub mod Courses
