-- Lemmas behind the answers.
pub mod OnLeb
pub mod OnFields
pub mod OnCode
pub mod OnModules
pub mod LebLaws
pub mod Laws
pub mod PartLaws
pub mod SequenceTaken
pub mod SequenceAgain
pub mod PlainLaws
pub mod Chain
pub mod ModuleLaws
