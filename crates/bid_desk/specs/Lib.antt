pub mod Sessions
pub mod Holding
pub mod Opening
pub mod Settlement
pub mod Closing
pub mod inside
pub mod Sale
