pub mod PriceTextFacts
pub mod StepFacts
pub mod AnswerFacts
pub mod AuctionFacts
mod CallFacts
mod BidderNameFacts
mod BookFacts
pub mod FaultFacts
pub mod FileCallFacts
mod FileFacts
mod LookFacts
pub mod FormStageFacts
pub mod FormTextFacts
pub mod DescribedFacts
pub mod InputTextFacts
pub mod LastFormFacts
pub mod SameFormFacts
pub mod SealedTextFacts
pub mod LimitFacts
pub mod LotFacts
pub mod PartFacts
mod PlaceFacts
mod ReadFacts
pub mod RecordFacts
pub mod StageFacts
pub mod StandingFacts
pub mod SubmissionFacts
pub mod PartCountFacts
pub mod WithinFacts
mod WorkedLines
