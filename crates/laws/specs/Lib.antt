-- Definitions and laws that say nothing of the bench: choices, tests and counts of the numbers below n, lists, tables, stretches and signed numbers.
pub mod Choice
pub mod Below
pub mod Range
pub mod Lists
pub mod Table
pub mod Stretch
pub mod Signed
pub mod Laws
