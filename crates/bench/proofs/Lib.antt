-- Laws of the benches.
pub mod BenchLaws
pub mod WalkLaws
pub mod Kept
