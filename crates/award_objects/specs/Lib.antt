pub mod Objects
pub mod Sums
