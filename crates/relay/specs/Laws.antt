-- What others use in place of the definitions' texts.
pub mod Link
pub mod Station
pub mod Row
