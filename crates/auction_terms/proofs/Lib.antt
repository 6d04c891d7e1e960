pub mod PowerFacts
pub mod FoldingFacts
pub mod FractionFacts
pub mod TokenFacts
pub mod ShortNumberFacts
pub mod FirstFieldFacts
pub mod FirstFaultFacts
pub mod AllFaultsFacts
pub mod FirstOfAllFacts
pub mod JudgeFacts
pub mod AcceptedFacts
pub mod RecordFacts
pub mod FieldFacts
pub mod TermsFacts
pub mod RulesTextFacts
mod FaultsOfRulesFacts
pub mod LineFacts
pub mod LineCountFacts
pub mod NameCountFacts
pub mod GroupsTextFacts
mod AcceptedGroupsFacts
mod NoFaultFacts
pub mod AcceptedRulesFacts
pub mod DescribedFacts
pub mod WeighedFacts
pub mod PackageFacts
pub mod AllocationFacts
pub mod PermutedFacts
pub mod OfferFacts
pub mod LimitFacts
pub mod LotsFacts
pub mod Worked
mod WorkedDescribed
