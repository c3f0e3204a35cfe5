-- The number of each refusal, and the number that the answer of a call tells.
pub mod Number
pub mod Text
pub mod Laws
