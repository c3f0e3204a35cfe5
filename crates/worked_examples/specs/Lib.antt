-- The definitions computed, a file a crate.
pub mod Laws
pub mod Netlist
pub mod Pearl
pub mod Relay
pub mod Shell
pub mod Node
pub mod Engine
pub mod Strict
pub mod Bench
pub mod Text
pub mod Tracer
pub mod TokenRule
pub mod Capi
