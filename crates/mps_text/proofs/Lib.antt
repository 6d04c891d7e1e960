pub mod FieldFacts
pub mod SmallFacts
mod LinePartFacts
pub mod LineFacts
pub mod NumberFacts
pub mod BlockFacts
pub mod RowPhaseFacts
pub mod RightSidePhaseFacts
pub mod ColumnPhaseFacts
pub mod BoundPhaseFacts
pub mod RowsBackFacts
mod LineByteFacts
mod ShortLineFacts
pub mod PushedFacts
pub mod ColumnsBackFacts
pub mod BoundsBackFacts
pub mod EntriesBackFacts
pub mod ListingFacts
pub mod WrittenLineFacts
pub mod ProgramBackFacts
pub mod RoundTripFacts
pub mod TextByteFacts
mod WorkedProgram
pub mod FaithfulTextFacts
mod Worked
