-- What a command wrote of an input, if it ended well, is true of the auction that the input describes.
use Rattle.std.proofs.Common.{◌≡◌, ℕ, List, Option, Result, Ok, Err, OnOk, subst}
use Rattle.auction_input.specs.Input.{Input}
use Rattle.auction_input.specs.declared.request.Request.{Request}
use Rattle.auction_input.specs.declared.request.Request.TheVariants as request
use Rattle.byte_sinks.specs.Sinks.{Outlet}
use Rattle.answers.specs.Answer.{answer}
use Rattle.answers.specs.Exact.{Writes}
use Rattle.answers.specs.FaithfulAnswers.{WritesFaithfulTextOn, WritesFaithfulTextsOn}
use Rattle.answers.specs.FeasibleAnswers.{WritesFeasibleReportOn, WritesFeasibleWinnersOn}
use Rattle.answers.specs.VerifiedInputs.{WritesTrueReportOn}
use Rattle.answers.proofs.FaithfulFacts.{compiled-is-faithful, text-is-faithful}
use Rattle.answers.proofs.FeasibleFacts.{mapped-is-feasible, reported-is-feasible}
use Rattle.answers.proofs.FormsFirstFacts.{writes-objects}
use Rattle.answers.proofs.VerifiedFacts.{verified-is-true}
use Rattle.answers.specs.VerifiedObjects.{WritesTrueObjectsOn}
use Rattle.auction_input.specs.declared.request.Objects.TheVariants as objects

module _ {T E : Type 0} (asked : Request) (input : Input) (result : Result T E) (before after : Outlet)
    (written : OnOk result (Writes (answer asked input) before after)) where
  abbrev IsSo : (Option (List ℕ) → Option (List ℕ) → Type 0) → Type 0
  IsSo WritesOn = OnOk result (WritesOn before.taken after.taken)

  -- what is so of the bytes that are answered is so of what is written
  of-answer : (WritesOn : Option (List ℕ) → Option (List ℕ) → Type 0) → (Writes (answer asked input) before after → WritesOn before.taken after.taken)
      → IsSo WritesOn
  of-answer WritesOn so = by result written
    where
      by : (r : Result T E) → OnOk r (Writes (answer asked input) before after) → OnOk r (WritesOn before.taken after.taken)
      by (Ok x) writes = so writes
      by (Err e) writes = tt

  pub text-on : asked ≡ request.Text → IsSo (WritesFaithfulTextOn input)
  text-on is = of-answer (WritesFaithfulTextOn input) (λ writes.
      let (out, answered, sent) = writes in
      let (auction, describes, faithful) = text-is-faithful input out (subst (λ (r : Request). answer r input ≡ Ok out) is answered) in
      (auction, describes, out, faithful, sent.taken))

  pub compiled-on : (workers : ℕ) → asked ≡ request.Compile workers → IsSo (WritesFaithfulTextsOn workers input)
  compiled-on workers is = of-answer (WritesFaithfulTextsOn workers input) (λ writes.
      let (out, answered, sent) = writes in
      let (auction, describes, faithful) = compiled-is-faithful workers input out (subst (λ (r : Request). answer r input ≡ Ok out) is answered) in
      (auction, describes, (out, faithful, sent.taken)))

  pub mapped-on : (k : ℕ) → asked ≡ request.Map k → IsSo (WritesFeasibleWinnersOn k input)
  mapped-on k is = of-answer (WritesFeasibleWinnersOn k input) (λ writes.
      let (out, answered, sent) = writes in
      let (auction, describes, feasible) = mapped-is-feasible k input out (subst (λ (r : Request). answer r input ≡ Ok out) is answered) in
      (auction, describes, out, feasible, sent.taken))

  pub reported-on : (workers : ℕ) → asked ≡ request.Report workers → IsSo (WritesFeasibleReportOn workers input)
  reported-on workers is = of-answer (WritesFeasibleReportOn workers input) (λ writes.
      let (out, answered, sent) = writes in
      let (auction, describes, feasible) = reported-is-feasible workers input out (subst (λ (r : Request). answer r input ≡ Ok out) is answered) in
      (auction, describes, out, feasible, sent.taken))

  pub verified-on : (workers : ℕ) → asked ≡ request.Verify workers → IsSo (WritesTrueReportOn workers input)
  verified-on workers is = of-answer (WritesTrueReportOn workers input) (λ writes.
      let (out, answered, sent) = writes in
      let (auction, describes, true_report) = verified-is-true workers input out (subst (λ (r : Request). answer r input ≡ Ok out) is answered) in
      (auction, describes, record { out = out; is_true = true_report; sent = sent.taken }))

  pub objects-on : (workers : ℕ) → asked ≡ request.Objects (objects.Verify workers) → IsSo (WritesTrueObjectsOn workers input)
  objects-on workers is = of-answer (WritesTrueObjectsOn workers input) (λ writes.
      writes-objects workers input before after (subst (λ (r : Request). Writes (answer r input) before after) is writes))
