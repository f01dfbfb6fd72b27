pub mod Outside
pub mod Given
pub mod Memory
pub mod MemSource
pub mod MemSink
pub mod MemStore
