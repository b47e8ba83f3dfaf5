pub mod Walks
pub mod Early
pub mod Starts
pub mod Corners
pub mod Inside
pub mod Blocks
pub use Rattle.vs_process
