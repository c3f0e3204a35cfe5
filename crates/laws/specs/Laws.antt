-- What others use in place of the definitions' texts.
pub mod Choice
pub mod Below
pub mod Cases
pub mod Tests
pub mod Range
pub mod Lists
pub mod Table
pub mod Array
pub mod Stretch
pub mod Signed
