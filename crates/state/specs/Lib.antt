-- The state of a netlist, the fresh state, and what the answer of a call tells.
pub mod State
pub mod Told
pub mod Fresh
pub mod Laws
