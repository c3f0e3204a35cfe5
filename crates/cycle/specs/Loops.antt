-- What only the contracts of inner functions and their loops say.
pub mod Parts
pub mod PartsLaws
pub mod Turns
pub mod Taken
