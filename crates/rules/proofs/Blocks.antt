-- The store's own storage: which blocks are used, and that every call keeps blocks and pages in order.
pub mod Sums
pub mod Tidy
pub mod TakeBlock
pub mod GoodWork
pub mod RealStore
pub mod RealSim
pub mod RealCalls
