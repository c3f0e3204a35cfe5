pub mod Listed
pub mod Shape
