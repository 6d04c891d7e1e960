use Rattle.std.proofs.Common.{ap, subst, sym, ◌∙◌}
use Rattle.std.proofs.lemmas.Result.{on_ok_weaker}
use Rattle.std.specs.Prelude.{Result}
use Rattle.auction_input.specs.Parts.{parts_held}
use Rattle.auction_input.specs.ParsedTexts.{parsed_terms}
use Rattle.auction_input.specs.declared.refusal.Refusal.{Refusal}
use Rattle.input_faults.proofs.MergeFacts.{finds-both}
use Rattle.input_faults.proofs.UnmetFacts.{unmet-read}
use Rattle.input_faults.specs.inside.Finding.{FindsMore}
use Rattle.auction_terms.specs.Terms.{Terms}
use Rattle.input_faults.proofs.TextFacts.{texts-kept}
use Rattle.input_faults.specs.InputFaults.{unmet_under, where_read}
use Rattle.input_faults.proofs.finding.take_texts.Goals as goal

pub returns : goal.returns
returns c =
    let reported = rw c.in-Some.is at c.in_ok-rules.ensures.rules in
    let parts = parts_held c.args.parts.now in
    let texts =
    texts-kept c.args.faults.now c.take_under.new.faults c.args.last_wins c.in-Some.rules _ _ _ _ _ c.text_of-rules.ensures reported
    (finds-both _ _ _ _ _ c.in_ok-rules.ensures.faults c.in_ok-groups.ensures.faults) in
    let known = sym (ap parsed_terms c.text_of-rules.ensures) ∙ reported in
    let same = unmet-read c.args.command parts c.in-Some.rules _ c.in_ok-groups.ensures.groups in
    on_ok_weaker c.take_wanted.result (λ found.
    let unmet = subst (λ (r : Result Terms Refusal). FindsMore c.take_under.new.faults c.take_wanted.new.faults
    (where_read r (unmet_under c.args.command parts))) (sym known) (rw same at found) in
    finds-both _ _ _ _ _ texts unmet) c.take_wanted.ensures
