pub mod Fronts
pub mod Served
pub mod inside
