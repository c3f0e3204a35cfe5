-- What is left in the arrays that the letters and values of a cycle are written to.
pub mod Shown
