-- The judge: whether it accepts an image, the number with which it refuses one, and what holds of an accepted image.
pub mod Judge
pub mod Accepted
pub mod Laws
pub mod Loops
