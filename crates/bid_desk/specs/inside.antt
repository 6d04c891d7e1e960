pub mod Comparing
pub mod Slots
