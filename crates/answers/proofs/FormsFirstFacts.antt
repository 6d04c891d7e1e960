-- What is answered where what is said of forms comes before what is said of an auction.
use Rattle.std.proofs.Common.{◌≡◌, ◌++◌, ◌∙◌, ℕ, List, Result, Ok, ap, inl, inr, refl, subst, sym}
use Rattle.std.specs.Io.KnownBytes.{Appends}
use Rattle.byte_sinks.specs.Sinks.{Outlet}
use Rattle.answers.specs.Answer.{answer, output_of, reported_objects, shown_objects, shown_outcome}
use Rattle.answers.specs.Exact.{IsUnwritten, MeetsLimit, Writes, by_refusal}
use Rattle.answers.specs.Forms.{forms_objects, forms_text}
use Rattle.answers.specs.VerifiedForms.{VerifiedWithFormsIsTrue, WritesVerifiedWithForms}
use Rattle.answers.specs.VerifiedObjects.{AreTrueObjects, VerifiedObjectsAreTrue, WritesTrueObjectsOn}
use Rattle.auction_input.specs.Auction.{Auction, parsed_auction}
use Rattle.auction_input.specs.Input.{Input}
use Rattle.auction_input.specs.LastForms.{FormParts, parsed_forms}
use Rattle.auction_input.specs.Refused.{Refuses}
use Rattle.auction_input.specs.Requests.{ReadsAuction}
use Rattle.auction_input.specs.Settled.{RefusesAuction}
use Rattle.auction_input.specs.declared.refusal.Refusal.{Refusal}
use Rattle.auction_input.specs.declared.request.Objects.TheVariants as objects
use Rattle.auction_input.specs.declared.request.Request.{Request}
use Rattle.auction_input.specs.declared.request.Request.TheVariants as request
use Rattle.auction_input.proofs.AnswerFacts.{ok-after, ok-is}
use Rattle.auction_input.proofs.DescribedFacts.{described-auction}
use Rattle.auction_input.proofs.SealedTextFacts.{read-is}
use Rattle.auction_input.proofs.StageFacts.{after-ok, next, refuses-as, stop}
use Rattle.auction_input.proofs.WithinFacts.{auction-within}
use Rattle.auction_terms.specs.Stages.{and_then}
use Rattle.award_objects.specs.Objects.{objects_shown}
use Rattle.answers.proofs.PricedFacts.{auction-sized}
use Rattle.answers.proofs.VerifiedFacts.{true-objects, verdicts, verified-is-true}

-- ---- what is true of it

pub verified-with-forms-is-true : VerifiedWithFormsIsTrue
verified-with-forms-is-true workers input out parsed =
    let (report, report_is, lines_after) = ok-after (answer (request.Verify workers) input) _ out parsed in
    let (read, read_as, whole) = ok-after (parsed_forms input) _ out lines_after in
    let (auction, described, is_true) = verified-is-true workers input report report_is in (
      forms_text read,
      report,
      sym (ok-is _ (forms_text read ++ report) out refl whole),
      record {
        auction = auction;
        described = described;
        lines_are = ap forms_text (read-is (request.Verify workers) input auction described read read_as);
        is_true = is_true;
      },
    )

-- what is written of an input is so
pub writes-with-forms : (workers : ℕ) (input : Input) (before after : Outlet) → Writes (answer (request.VerifyWithForms workers) input) before after
    → WritesVerifiedWithForms workers input before.taken after.taken
writes-with-forms workers input before after (out, parsed, sent) =
    let (lines, report, is, verified) = verified-with-forms-is-true workers input out parsed in
    (lines, report, verified, subst (λ (bytes : List ℕ). Appends before.taken after.taken bytes) is sent.taken)

pub verified-objects-are-true : VerifiedObjectsAreTrue
verified-objects-are-true workers input out parsed =
    let (said, said_is, forms_before) = ok-after (and_then (parsed_auction (request.Verify workers) input) shown_objects) _ out parsed in
    let (read, read_as, whole) = ok-after (parsed_forms input) _ out forms_before in
    let (auction, auction_is, shows) = ok-after (parsed_auction (request.Verify workers) input) shown_objects said said_is in
    let (o, shown, written) = ok-after (shown_outcome auction) _ said shows in
    let described = (described-auction (request.Verify workers) input auction).0 auction_is in (
      forms_objects read,
      said,
      sym (ok-is _ (forms_objects read ++ said) out refl whole),
      record {
        auction = auction;
        described = described;
        forms_are = ap forms_objects (read-is (request.Verify workers) input auction described read read_as);
        are_true = subst (AreTrueObjects auction) (ok-is _ (objects_shown auction.rules auction.sale auction.groups o) said refl written)
            (true-objects auction o (auction-within (request.Verify workers) input auction auction_is).1
            (auction-sized (request.Verify workers) input auction auction_is) (verdicts auction o shown));
      },
    )

pub writes-objects : (workers : ℕ) (input : Input) (before after : Outlet)
    → Writes (answer (request.Objects (objects.Verify workers)) input) before after → WritesTrueObjectsOn workers input before.taken after.taken
writes-objects workers input before after (out, parsed, sent) =
    let (forms, said, is, verified) = verified-objects-are-true workers input out parsed in
    let appended = subst (λ (bytes : List ℕ). Appends before.taken after.taken bytes) is sent.taken in
    (verified.auction, verified.described, (forms, said, verified.are_true, appended))

-- ---- why it isn't written

-- a request reads an auction as another one does, and says of it what follows what is said of forms
pub record FormsFirst (asked base : Request) (say : Auction → Result (List ℕ) Refusal) (lines : FormParts → List ℕ) (input : Input) : Type 0 where
  pub reads : ReadsAuction asked
  pub same : parsed_auction asked input ≡ parsed_auction base input
  pub is : answer asked input ≡ and_then (and_then (parsed_auction base input) say) (λ said. and_then (parsed_forms input) (λ read. Ok (lines read ++ said)))

module _ (asked base : Request) (say : Auction → Result (List ℕ) Refusal) (lines : FormParts → List ℕ) (input : Input)
    (so : FormsFirst asked base say lines input) where
  -- there is no auction
  pub no-auction-first : (before : Outlet) (r : Refusal) → RefusesAuction base input r → IsUnwritten asked input before before r
  no-auction-first before r (inl refused) =
      inl (by_refusal (refuses-as _ _ r so.is (stop _ _ r (stop (parsed_auction base input) say r refused))) refl)
  no-auction-first before r (inr (reads, auction, parsed, is)) = inr (inl (so.reads, auction, so.same ∙ parsed, is), refl)

  -- it isn't judged
  pub unjudged-first : (before : Outlet) (r : Refusal) → MeetsLimit asked input r → IsUnwritten asked input before before r
  unjudged-first before r meets = inr (inr meets, refl)

  module _ (auction : Auction) (parsed : parsed_auction base input ≡ Ok auction) where
    -- nothing is said of it
    pub unsaid-first : (before : Outlet) (r : Refusal) → Refuses (say auction) r → IsUnwritten asked input before before r
    unsaid-first before r refused = inl (by_refusal (refuses-as _ _ r so.is (stop _ _ r (after-ok _ auction _ r parsed refused))) refl)

    module _ (said : List ℕ) (says : say auction ≡ Ok said) where
      -- its forms aren't read
      pub unread-first : (before : Outlet) (r : Refusal) → Refuses (parsed_forms input) r → IsUnwritten asked input before before r
      unread-first before r refused =
          inl (by_refusal (refuses-as _ _ r so.is (after-ok _ said _ r (next _ auction _ _ parsed says) (stop _ _ r refused))) refl)

      -- they are
      pub with-forms : (text : List ℕ) → and_then (parsed_forms input) (λ read. Ok (lines read)) ≡ Ok text → answer asked input ≡ Ok (text ++ said)
      with-forms text is =
          let (read, read_as, whole) = ok-after (parsed_forms input) (λ found. Ok (lines found)) text is in
          let same : lines read ≡ text = ok-is _ (lines read) text refl whole in
          so.is ∙ next _ said _ _ (next _ auction _ _ parsed says) (next _ read _ _ read_as (ap (λ (bytes : List ℕ). Ok (bytes ++ said)) same))

-- `verify --forms`, and `verify` and `report` in objects, do so
pub verify-with-forms : (workers : ℕ) (input : Input)
    → FormsFirst (request.VerifyWithForms workers) (request.Verify workers) (output_of (request.Verify workers)) forms_text input
verify-with-forms workers input = record { reads = tt; same = refl; is = refl }

pub verify-as-objects : (workers : ℕ) (input : Input)
    → FormsFirst (request.Objects (objects.Verify workers)) (request.Verify workers) shown_objects forms_objects input
verify-as-objects workers input = record { reads = tt; same = refl; is = refl }

pub report-as-objects : (workers : ℕ) (input : Input)
    → FormsFirst (request.Objects (objects.Report workers)) (request.Report workers) reported_objects forms_objects input
report-as-objects workers input = record { reads = tt; same = refl; is = refl }
