-- What `verify --forms` writes: the lines of `forms`, and after them a true report; and that two outputs whose lines of forms are the same, and
-- which end with the same two lines, have the same award, unless two texts with one digest are known.
use Rattle.std.specs.Prelude.{◌≡◌, ◌≢◌, ◌⊎◌, ◌++◌, Contains, ℕ, List, Ok, Option}
use Rattle.std.specs.Io.KnownBytes.{Appends}
use Rattle.answers.specs.Answer.{answer}
use Rattle.answers.specs.Forms.{digest, forms_text}
use Rattle.answers.specs.Verified.{AreSameAward, IsAward, IsTrueReport, award_lines}
use Rattle.auction_input.specs.Auction.{Auction}
use Rattle.auction_input.specs.Described.{Describes}
use Rattle.auction_input.specs.Input.{Input}
use Rattle.auction_input.specs.SealedTexts.{rules_in, sealed_texts, with_texts}
use Rattle.auction_input.specs.declared.request.Request.TheVariants.{Verify, VerifyWithForms}
use Rattle.auction_terms.specs.Terms.{Terms}
use Rattle.bid_forms.specs.Offers.{Offers}

-- the lines of `forms`: of the text of the rules, and of the texts of the forms
abbrev pub lines_of_forms : Input → Terms → List Offers → List ℕ
lines_of_forms input rules forms = forms_text (record { bytes = rules_in input; rules = rules; forms = with_texts input forms })

-- an output has these lines of forms and then this report: they are the lines of an input, and the report is true of the auction that it describes
pub record IsVerifiedWithForms (workers : ℕ) (input : Input) (lines report : List ℕ) : Type 0 where
  pub auction : Auction
  pub described : Describes (Verify workers) input auction
  pub lines_are : lines ≡ lines_of_forms input auction.rules described.forms
  pub is_true : IsTrueReport auction report

-- what `verify --forms` answers of an input has the lines of its forms and then a report that is true of the auction that it describes
abbrev pub VerifiedWithFormsIsTrue : Type 0
VerifiedWithFormsIsTrue = (workers : ℕ) (input : Input) (out : List ℕ) → answer (VerifyWithForms workers) input ≡ Ok out
    → (lines : List ℕ) × (report : List ℕ) × (out ≡ lines ++ report) × IsVerifiedWithForms workers input lines report

-- such lines and such a report were written, and nothing else
abbrev pub WritesVerifiedWithForms : ℕ → Input → Option (List ℕ) → Option (List ℕ) → Type 0
WritesVerifiedWithForms workers input taken taken' =
    (lines : List ℕ) × (report : List ℕ) × IsVerifiedWithForms workers input lines report × Appends taken taken' (lines ++ report)

-- two different ones of these texts have one SHA-256, as it is printed
pub record HaveOneDigest (texts : List (List ℕ)) : Type 0 where
  pub one : List ℕ
  pub other : List ℕ
  pub is_one : Contains texts one
  pub is_other : Contains texts other
  pub differ : one ≢ other
  pub same : digest one ≡ digest other

-- two outputs with the same lines of forms that end with `by the rule` and `unique` have the same award: its winners, prices and exact prices; or
-- two different texts of rules or forms of their inputs have one digest
abbrev pub AwardFollowsFromDigests : Type 0
AwardFollowsFromDigests = (workers workers' : ℕ) (input input' : Input) (lines before before' : List ℕ)
    (one : IsVerifiedWithForms workers input lines (before ++ award_lines)) (other : IsVerifiedWithForms workers' input' lines (before' ++ award_lines))
    → ((award : IsAward one.auction (before ++ award_lines)) × (award' : IsAward other.auction (before' ++ award_lines))
    × AreSameAward one.auction other.auction (before ++ award_lines) (before' ++ award_lines) award award')
    ⊎ HaveOneDigest (sealed_texts input ++ sealed_texts input')
