-- Defines numbers as bytes, both ways; `proofs/Back` proves that what is written is read back.
pub mod Numbers
pub mod Laws
