-- What is written is read back.
pub mod BackLaws
pub mod Back
