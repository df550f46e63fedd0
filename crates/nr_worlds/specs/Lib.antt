-- Definitions that the contracts cite.
pub mod Answers
pub mod Judging
pub mod Laws
pub mod Tests
pub mod Valid
