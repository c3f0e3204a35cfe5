-- Defines what a step answers, and what it has done to what it was lent.
pub mod Answer
pub mod Laws
