use Rattle.std.proofs.Common.{List, Option, Result, inl, inr, map, refl, subst, sym}
use Rattle.std.specs.List.{AllZip}
use Rattle.program_rows.specs.declared.certificate_fault.CertificateFault.{CertificateFault}
use Rattle.answers.specs.inside.Judging.{IsFirstFaulty, IsJudgedIfBegun, bound_held}
use Rattle.auction_input.specs.declared.refusal.Refusal.TheVariants as refusal
use Rattle.answers.proofs.CertifiedFacts.{EndsChecks, all-checked, ends-checks}
use Rattle.auction_input.proofs.StepFacts.{if-err-of, if-err-weaker}
use Rattle.answers.proofs.certified.check_each.Goals as goal

abbrev Verdicts : Type 0
Verdicts = List (Option (Result (Unit {0}) CertificateFault))

pub first_refused-requires : goal.first_refused-requires
first_refused-requires g c = subst (λ (xs : Verdicts). AllZip (IsJudgedIfBegun c.args.programs.now) c.args.bounds.now xs)
    (sym c.as_slice.ensures.value) c.in_ok-verdicts.ensures

pub returns-clause-shown : goal.returns-clause-shown
returns-clause-shown g c = all-checked c.args.programs.now c.args.bounds.now c.first_refused.result c.first_refused.ensures.shown

pub returns-clause-refuses : goal.returns-clause-refuses
returns-clause-refuses g c =
    if-err-weaker (IsFirstFaulty c.args.programs.now c.args.bounds.now)
    (EndsChecks (map (bound_held c.args.programs.now) c.args.bounds.now)) c.first_refused.result
    (ends-checks c.args.programs.now c.args.bounds.now) c.first_refused.ensures.first

pub returns-in_err-verdicts-clause-refuses : goal.returns-in_err-verdicts-clause-refuses
returns-in_err-verdicts-clause-refuses g c =
    if-err-of (EndsChecks (map (bound_held c.args.programs.now) c.args.bounds.now)) c.from_residual.result refusal.OutOfMemory
    c.from_residual.ensures.1 (inl (inr refl))
