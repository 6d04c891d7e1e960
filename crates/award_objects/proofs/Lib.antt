pub mod ListFacts
pub mod MemberFacts
pub mod SmallFacts
pub mod SumFacts
mod Worked
