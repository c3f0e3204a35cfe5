-- What others use in place of the definitions' texts.
pub mod Numbers
