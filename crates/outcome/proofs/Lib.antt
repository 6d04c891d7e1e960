pub mod NearFacts
pub mod SaidFacts
pub mod ParsedFacts
pub mod PointFacts
pub mod SomeBidFacts
pub mod BackFacts
pub mod NameFacts
pub mod BoundFacts
pub mod CostFacts
pub mod TieFacts
pub mod QuantityFacts
pub mod NumberFacts
pub mod FollowFacts
pub mod PutFacts
pub mod LeftFacts
pub mod OtherFacts
pub mod ReportFacts
pub mod WorkedPrograms
mod WorkedPrices
mod WorkedSolutions
mod WorkedFollowing
