-- Links, relay stations, and rows of stations in one cycle.
pub mod Link
pub mod Station
pub mod Row
pub mod Laws
