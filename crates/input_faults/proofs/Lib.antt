pub mod BeginFacts
pub mod ExplainFacts
pub mod FormsFacts
pub mod InputBeginsFacts
pub mod MergeFacts
pub mod PartsFacts
pub mod PlaceFacts
pub mod TextFacts
pub mod UnmetFacts
mod ShownFacts
mod StringFacts
