pub mod HeldLines
pub mod Finding
