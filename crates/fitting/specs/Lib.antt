-- Number 21: whether a state fits an image, and what holds of a state that does; and the number of an image and a state.
pub mod Fits
pub mod Fitting
pub mod Laws
pub mod Loops
