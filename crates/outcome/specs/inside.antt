pub mod Reading
pub mod SolutionValues
pub mod Winning
pub mod Following
