pub mod MemorySinks
