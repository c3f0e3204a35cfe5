-- Defines what the trace program reads: the image and the words that an input holds, and the input's number.
pub mod Input
pub mod Laws
