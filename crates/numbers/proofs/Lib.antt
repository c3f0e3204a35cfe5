-- What is written is read back. It rests on the bytes of a number, and so stands where a changed definition of them is refused.
pub mod Back
