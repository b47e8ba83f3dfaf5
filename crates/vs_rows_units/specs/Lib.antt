pub mod ThreeSignals
