-- What the proof carries from call to call.
pub mod Typed
