-- The queue at the end of a channel, and a channel in one cycle.
pub mod Queue
pub mod Channel
pub mod Laws
