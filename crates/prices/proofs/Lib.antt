pub mod WeightFacts
pub mod BlockingFacts
pub mod ExistFacts
pub mod RaisedFacts
pub mod SquareFacts
pub mod RuleFacts
pub mod RoundingFacts
pub mod FollowingFacts
pub mod AloneFacts
pub mod CodeFacts
pub mod FewFacts
pub mod ShownFacts
mod Worked
