pub mod KnownByteFacts
pub mod AddingFacts
pub mod JsonFacts
pub mod ObjectFacts
