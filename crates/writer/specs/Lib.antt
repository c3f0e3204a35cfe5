-- Defines what a writer answers, and what it leaves in the slice that it is lent.
pub mod Put
pub mod Write
pub mod Laws
