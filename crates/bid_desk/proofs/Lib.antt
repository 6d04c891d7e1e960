pub mod ClosingFacts
pub mod CompareFacts
mod HeldFacts
pub mod SettleFacts
pub mod SlotFacts
