-- Defines stall words, what one cycle makes of a state, each channel's letter and value in it, and what a run of cycles answers.
pub mod Word
pub mod Cycle
pub mod Run
pub mod Laws
pub mod Loops
