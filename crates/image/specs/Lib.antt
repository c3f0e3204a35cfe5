-- The image: its fields, R, the records that its readers answer, and what images that differ at most in their depths have in common.
pub mod Image
pub mod Readers
pub mod Alike
pub mod Laws
pub mod Loops
