pub mod Settling
pub mod Needs
pub mod Claimed
pub mod Proposals
pub use Rattle.vs_cert_check.specs.vs_rules
pub use Rattle.vs_certificate
