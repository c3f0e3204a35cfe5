-- What others use in place of the definitions' texts.
pub mod Cycle
pub mod Kept
pub mod After
pub mod Ranged
pub mod Run
pub mod Counters
pub mod Counting
