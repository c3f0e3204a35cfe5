-- What only the contracts of inner functions and their loops say.
pub mod Walk
