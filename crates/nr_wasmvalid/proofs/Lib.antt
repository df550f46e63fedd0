-- Lemmas behind the answers.
pub mod OnStacks
pub mod OnShapes
pub mod OnLocals
pub mod OnJudged
pub mod Meaning
pub mod Sequences
pub mod Once
pub mod Verdicts
pub mod Safe
pub mod OnParts
pub mod OnSigs
pub mod Whole
pub mod OnImports
pub mod OnExports
