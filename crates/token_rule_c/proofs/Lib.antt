-- The theorem and its laws.
pub mod Back
pub mod TokenRule
