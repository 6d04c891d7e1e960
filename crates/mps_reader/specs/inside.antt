pub mod Columns
pub mod Agreeing
pub mod Reading
pub mod Rows
pub mod Sections
pub mod States
pub mod Tracking
