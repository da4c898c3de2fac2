-- One storage stands for another: the model, the count and the store's own go together through every rule and call.
pub mod Model
pub mod MapBlocks
pub mod Sim
pub mod SimRules
pub mod StoreSim
pub mod CountSim
pub mod CountCalls
