-- What `verify --json` writes: the objects of the forms, and after them those of a true report.
use Rattle.std.specs.Prelude.{◌≡◌, ◌++◌, ℕ, List, Ok, Option}
use Rattle.std.specs.Io.KnownBytes.{Appends}
use Rattle.answers.specs.Answer.{answer}
use Rattle.answers.specs.Forms.{forms_objects}
use Rattle.answers.specs.Verified.{IsTrueReport}
use Rattle.auction_input.specs.Auction.{Auction}
use Rattle.auction_input.specs.Described.{Describes}
use Rattle.auction_input.specs.Input.{Input}
use Rattle.auction_input.specs.SealedTexts.{rules_in, with_texts}
use Rattle.auction_input.specs.declared.request.Objects.TheVariants as objects
use Rattle.auction_input.specs.declared.request.Request.TheVariants.{Objects, Verify}
use Rattle.auction_terms.specs.Terms.{Terms}
use Rattle.award_objects.specs.Objects.{objects_shown}
use Rattle.bid_forms.specs.Offers.{Offers}

-- the objects say what a true report says: its allocations, its prices, and what it says of other awards
pub record AreTrueObjects (auction : Auction) (out : List ℕ) : Type 0 where
  pub report : List ℕ
  pub is_true : IsTrueReport auction report
  pub text : out ≡ objects_shown auction.rules auction.sale auction.groups
      (record { won = is_true.won; pricing = is_true.pricing; others = is_true.others })

-- the objects of `forms`: of the text of the rules, and of the texts of the forms
abbrev pub objects_of_forms : Input → Terms → List Offers → List ℕ
objects_of_forms input rules forms = forms_objects (record { bytes = rules_in input; rules = rules; forms = with_texts input forms })

-- an output has these objects of forms and then these: they are those of an input, and true of the auction that it describes
pub record AreVerifiedObjects (workers : ℕ) (input : Input) (forms said : List ℕ) : Type 0 where
  pub auction : Auction
  pub described : Describes (Verify workers) input auction
  pub forms_are : forms ≡ objects_of_forms input auction.rules described.forms
  pub are_true : AreTrueObjects auction said

-- what `verify --json` answers of an input is so
abbrev pub VerifiedObjectsAreTrue : Type 0
VerifiedObjectsAreTrue = (workers : ℕ) (input : Input) (out : List ℕ) → answer (Objects (objects.Verify workers)) input ≡ Ok out
    → (forms : List ℕ) × (said : List ℕ) × (out ≡ forms ++ said) × AreVerifiedObjects workers input forms said

-- objects that are true of the auction that an input describes were written last, and nothing after them; `VerifiedObjectsAreTrue` says what comes before
abbrev pub WritesTrueObjectsOn : ℕ → Input → Option (List ℕ) → Option (List ℕ) → Type 0
WritesTrueObjectsOn workers input taken taken' =
    (auction : Auction) × Describes (Verify workers) input auction
    × ((forms : List ℕ) × (said : List ℕ) × AreTrueObjects auction said × Appends taken taken' (forms ++ said))
