-- What a core computes: the kinds of cores, their numbers, and a node's next value.
pub mod Kind
pub mod Wrap
pub mod Next
pub mod Laws
