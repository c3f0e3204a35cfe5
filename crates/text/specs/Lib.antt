-- Defines the trace as text: ASCII texts, numbers in decimal, the lines, the whole trace.
pub mod Ascii
pub mod Decimal
pub mod Lines
pub mod Trace
pub mod Laws
