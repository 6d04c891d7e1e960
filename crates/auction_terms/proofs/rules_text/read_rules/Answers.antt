use Rattle.std.proofs.Common.{◌≡◌, Err}
use Rattle.auction_terms.proofs.FirstFaultFacts.{answers-parsed}
use Rattle.auction_terms.proofs.RulesTextFacts.{first-reported}
use Rattle.auction_terms.specs.Records.{records_of}
use Rattle.auction_terms.specs.RulesText.{is_rules_memory, rules_of_records}
use Rattle.auction_terms.proofs.rules_text.read_rules.Goals as goal

pub returns-clause-answer : goal.returns-clause-answer
returns-clause-answer c short =
    let held = rw c.new-faults.ensures.limit at c.in_ok-rules.ensures.told in
    let some = rw c.in-None.is at c.in_ok-rules.ensures.rules in
    let first : Err c.index.result.now.fault ≡ rules_of_records (records_of c.args.bytes.now) =
    rw c.index.ensures (first-reported c.judge_text.new.faults (records_of c.args.bytes.now) c.index.result.now held some) in
    answers-parsed is_rules_memory _ (rules_of_records (records_of c.args.bytes.now)) first
