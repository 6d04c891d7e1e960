mod WorkedTexts
pub mod EachFacts
pub mod SpellingFacts
mod WorkedValues
pub mod FaithfulFacts
pub mod OnlyPointFacts
mod LostFacts
pub mod FewerBidFacts
pub mod LegalFacts
pub mod PieceFacts
pub mod ColumnFacts
pub mod CostedFacts
pub mod BuildFacts
pub mod BuiltFacts
pub mod SelectionFacts
pub mod SeenFacts
pub mod SumFacts
pub mod OneFacts
pub mod BrokenFacts
pub mod NumeralFacts
pub mod KeptFacts
pub mod LookupFacts
pub mod NamedItemFacts
pub mod SameFacts
pub mod NameSetFacts
pub mod AddedNameFacts
