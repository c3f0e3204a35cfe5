-- Defines a state and station records as bytes: how they are written, and what bytes are read as; `proofs/Back` proves that what is written is read
-- back.
pub mod Places
pub mod Bytes
pub mod Typed
pub mod Laws
