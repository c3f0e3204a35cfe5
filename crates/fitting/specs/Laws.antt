-- What others use in place of the definitions' texts.
pub mod Places
pub mod Fits
pub mod Fitting
pub mod Number
