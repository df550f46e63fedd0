-- Definitions that the contracts cite.
pub mod Words
pub mod Entries
pub mod Forms
pub mod Shown
pub mod Lines
pub mod LineSentences
pub mod CallSentences
pub mod Written
pub mod Programs
pub mod Sentences
pub mod Report
pub mod Coded
