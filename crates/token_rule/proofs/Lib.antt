-- The laws of what a list of calls and its cycles do, and the theorem.
pub mod ArrivalsLaws
pub mod CyclesLaws
pub mod ProgressLaws
pub mod AnswersLaws
pub mod CallsLaws
pub mod TokenRuleLaws
