pub mod Building
pub mod Comparing
pub mod Cut
pub mod Joined
pub mod Ones
pub mod Pieces
pub mod Seen
pub mod Sharing
