pub mod Bodies
pub mod ThreeSignals
