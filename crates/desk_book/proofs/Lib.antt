mod Copies
mod Extending
mod FrontStays
mod Kept
mod Names
mod Parts
mod Printed
mod PrintedEntries
pub mod Reading
mod ReadAgain
mod ReadBack
mod Rewinding
mod SameEntry
mod Standing
mod WorkedCalls
