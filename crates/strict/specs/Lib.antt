-- Defines the strict system, and what the strict run answers and writes.
pub mod Strict
pub mod Answer
pub mod Laws
pub mod Loops
