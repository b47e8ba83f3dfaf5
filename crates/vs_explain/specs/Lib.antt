pub use Rattle.vs_simulate
