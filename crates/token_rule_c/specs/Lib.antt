-- Lists of calls for C, as lists of the calls that the token rule speaks of.
pub mod Calls
pub mod Laws
