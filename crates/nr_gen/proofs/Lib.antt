-- Lemmas behind the answers.
pub mod Lists
pub mod Modules
pub mod Below
pub mod Layouts
pub mod Apart
pub mod Founding
pub mod Ordered
pub mod Ids
pub mod Founded
pub mod Fitting
