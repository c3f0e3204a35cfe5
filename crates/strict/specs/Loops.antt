-- What only the contracts of inner functions and their loops say.
pub mod Decoded
pub mod System
pub mod DecodedLaws
