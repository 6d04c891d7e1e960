pub mod Sinks
pub mod Adds
pub mod Json
pub mod Objects
pub mod MemorySinks
pub mod inside
