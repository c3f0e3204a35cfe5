-- The kinds of cores: how many inputs a node of each kind has, and its next value.
pub mod Kinds
pub mod Laws
