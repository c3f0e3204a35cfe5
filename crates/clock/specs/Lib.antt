-- What the answer of a run tells.
pub mod Told
pub mod Loops
