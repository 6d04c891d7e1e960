mod WorkedWords
pub mod CertifiedFacts
pub mod CheckFacts
pub mod ClaimedFacts
pub mod CountFacts
pub mod FaultFacts
pub mod PricingFacts
pub mod ReportFacts
pub mod WinnersFeasibleFacts
pub mod WinningFacts
pub mod AskedFacts
pub mod KindsFacts
pub mod AnswerFacts
pub mod CommandFacts
pub mod EndFacts
pub mod ExplainedForFacts
pub mod ExplainingFacts
pub mod FaithfulFacts
pub mod FeasibleFacts
mod FileLineFacts
mod FormsFacts
pub mod FormsFirstFacts
pub mod GroupTextFacts
mod LineFacts
pub mod OthersFacts
pub mod PricedFacts
pub mod ProgramTextFacts
mod RunCallFacts
pub mod RunFacts
mod SizeFacts
pub mod VerifiedFacts
pub mod AwardFacts
mod FormAwardFacts
mod FormLineFacts
mod DigestFacts
pub mod VerifyFacts
pub mod WrittenOnFacts
mod WorkedDescribed
mod WorkedGroups
mod WorkedRefusals
mod WorkedReport
mod WorkedSizes
mod WorkedText
mod WorkedThreeForms
mod WorkedWinners
