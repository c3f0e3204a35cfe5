-- What others use in place of the definitions' texts.
pub mod Put
pub mod Write
pub mod Items
