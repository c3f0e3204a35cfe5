-- What others use in place of the definitions' texts.
pub mod Trace
pub mod Steps
pub mod Done
pub mod Head
