-- What others use in place of the definitions' texts.
pub mod Accepted
pub mod Head
pub mod Judge
pub mod Sized
pub mod Fed
pub mod Clear
