-- Definitions that the contracts cite.
pub mod Small
pub mod Amounts
pub mod SmallLaws
pub mod Roll
pub mod RollLaws
pub mod Pair
pub mod PairLaws
