-- Defines the trace of an image and words, what the trace program prints for an input, and what the calls for its lines have done.
pub mod Trace
pub mod Done
pub mod Laws
