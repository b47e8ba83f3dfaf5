pub mod Honesty
pub mod Listing
pub use Rattle.vs_kernel
