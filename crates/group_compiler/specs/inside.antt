pub mod Claimed
pub mod Claims
pub mod Works
pub mod Making
pub mod Ordering
pub mod Sharing
