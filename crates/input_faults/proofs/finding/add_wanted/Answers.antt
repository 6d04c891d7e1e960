use Rattle.std.proofs.Common.{◌++◌, ◌∙◌, Bool, List, Some, ap, ap₂, subst, sym}
use Rattle.std.proofs.lemmas.Result.{on_ok_weaker}
use Rattle.auction_input.specs.Parts.{parts_held}
use Rattle.auction_input.specs.PartCounts.{numbers_in, proof_wants, solution_wants, wants}
use Rattle.auction_input.specs.declared.part_counts.Numbers.{Numbers}
use Rattle.auction_input.specs.declared.part_counts.Unmet.{Unmet}
use Rattle.input_faults.proofs.MergeFacts.{finds-both}
use Rattle.input_faults.specs.inside.Finding.{FindsMore}
use Rattle.auction_terms.specs.Judged.{Fault as Judged}
use Rattle.input_faults.specs.declared.fault.Fault.{Fault}
use Rattle.input_faults.proofs.UnmetFacts.{unmet-both, unmet_of}
use Rattle.auction_input.specs.declared.request.Target.{Target}
use Rattle.auction_input.specs.declared.request.Target.TheVariants as target
use Rattle.input_faults.proofs.finding.add_wanted.Goals as goal

pub returns-in_ok-add_unmet-in-Verify : goal.returns-in_ok-add_unmet-in-Verify
returns-in_ok-add_unmet-in-Verify c =
    let n = c.of_parts-numbers.result in
    let of_parts = numbers_in (parts_held c.args.parts.now) c.args.groups.now in
    let same =
    ap₂ (λ (a b : List (Bool × Unmet)). unmet_of a ++ unmet_of b) c.solution_wants-in-Verify.ensures c.proof_wants.ensures
    ∙ sym (unmet-both (solution_wants n) (proof_wants n))
    ∙ ap (λ (m : Numbers). unmet_of (wants (Some target.Verify) m)) c.of_parts-numbers.ensures
    ∙ ap (λ (t : Target). unmet_of (wants (Some t) of_parts)) (sym c.in-Verify.is) in
    on_ok_weaker c.add_unmet-in-Verify-2.result
    (λ second. subst (λ (fs : List (Judged Fault)). FindsMore c.args.faults.now c.add_unmet-in-Verify-2.new.faults fs) same
    (finds-both _ _ _ _ _ c.in_ok-add_unmet-in-Verify.ensures second))
    c.add_unmet-in-Verify-2.ensures
