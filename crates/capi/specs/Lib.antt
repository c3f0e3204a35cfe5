-- Defines what each call for C has done, on the state or the records that bytes are. That calls on bytes are those of the crates below is proved in
-- `token_rule_c`.
pub mod Calls
pub mod Edition
pub mod Laws
