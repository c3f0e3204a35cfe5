-- What holds of an input that was read to its end, and what is left free.
pub mod Input
