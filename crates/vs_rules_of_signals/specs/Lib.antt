pub mod Writers
pub use Rattle.vs_graph
pub use Rattle.vs_claims.specs.vs_maps
pub mod Order
pub use Rattle.vs_claims
pub mod Places
pub mod Ranks
