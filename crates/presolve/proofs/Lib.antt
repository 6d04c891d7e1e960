pub mod SizeFacts
pub mod BitFacts
pub mod SieveFacts
pub mod NumberFacts
pub mod FlagFacts
pub mod ChoiceFacts
pub mod KeepFacts
pub mod RivalFacts
pub mod SearchFacts
pub mod ReasonFacts
pub mod LineFacts
pub mod FormFacts
mod Worked
