use Rattle.std.proofs.Common.{ap}
use Rattle.auction_input.specs.ParsedTexts.{parsed_terms}
use Rattle.auction_input.specs.declared.refusal.Refusal.TheVariants as refusal
use Rattle.auction_terms.specs.Records.{records_of}
use Rattle.auction_terms.specs.RulesText.{rules_faults, rules_of_records}
use Rattle.auction_terms.specs.Stages.{refused_as}
use Rattle.auction_terms.specs.declared.rules_text.RulesFault.TheVariants as rules
use Rattle.input_faults.proofs.InputBeginsFacts.{begin-terms}
use Rattle.input_faults.proofs.TextFacts.{judged-sized, nothing-more, some-refused}
use Rattle.input_faults.specs.declared.fault.Fault.TheVariants as fault
use Rattle.input_faults.proofs.reading.take_rules.Goals as goal

pub returns-in-Ok : goal.returns-in-Ok
returns-in-Ok c =
    let text = c.args.text.now in
    let judged = judged-sized rules.TooLarge text (rules_of_records (records_of text)) (rules_faults (records_of text)) _
    c.in_ok-rules.ensures.too_large c.in_ok-rules.ensures.answer in
    let reported = ap (refused_as refusal.Rules) (rw c.in-Ok.is at judged) in
    record { faults = nothing-more c.args.faults.now _ _ _ (begin-terms text) reported; rules = reported }

pub returns-in_ok-add_rules-in-Err : goal.returns-in_ok-add_rules-in-Err
returns-in_ok-add_rules-in-Err c =
    let text = c.args.text.now in
    let judged = judged-sized rules.TooLarge text (rules_of_records (records_of text)) (rules_faults (records_of text)) _
    c.in_ok-rules.ensures.too_large c.in_ok-rules.ensures.answer in
    let (some, held) = rw c.in-Err.is at judged in
    record {
      faults = c.in_ok-add_rules-in-Err.ensures _ held;
      rules = some-refused fault.Rules _ (parsed_terms text) (begin-terms text) some;
    }
