-- Defines the token rule: what a list of cycles does, the calls and the cycles they make, and the statement; `proofs/TokenRuleLaws` proves it.
pub mod Cycles
pub mod Calls
pub mod Given
pub mod Progress
pub mod TokenRule
pub mod Laws
