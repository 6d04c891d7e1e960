use Rattle.bid_forms.proofs.FaultsOfRecordsFacts.{of-records, records-are-of-items}
use Rattle.bid_forms.proofs.laws.faults_of_forms_are_of_their_records.Goals as goal

pub returns : goal.returns
returns c = record { form = of-records; records = records-are-of-items }
