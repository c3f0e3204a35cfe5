-- Defines what the benches answer, and what the lent row holds after them.
pub mod Bench
pub mod ByValue
pub mod Loops
