-- What others use in place of the definitions' texts.
-- what the proof of the token rule carries from cycle to cycle: a sound state
pub mod Sound
pub mod Safety
