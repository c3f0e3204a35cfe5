-- A node in its netlist: the kinds of all nodes, what is on a node's ports, and its next value.
pub mod Kinds
pub mod Node
pub mod Laws
