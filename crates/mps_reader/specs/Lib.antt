pub mod Answer
pub mod inside
