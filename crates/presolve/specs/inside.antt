pub mod Flags
pub mod Sieves
pub mod Sizes
