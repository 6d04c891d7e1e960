use Rattle.auction_terms.proofs.FirstOfAllFacts.{first-of-all}
use Rattle.bid_forms.specs.FormText.{record_faults}
use Rattle.bid_forms.proofs.laws.records_of_forms_tell_their_first_fault.Goals as goal

pub returns : goal.returns
returns c terms eligibility = first-of-all (record_faults terms eligibility)
