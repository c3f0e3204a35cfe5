-- Defines the starred edges: the arithmetic ones as a table, and all of them as one claim.
pub mod Edges
pub mod Starred
