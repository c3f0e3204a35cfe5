-- The line that the program prints.
pub mod Line
