-- What small inputs describe.
use Rattle.std.specs.Prelude.{◌≡◌, [], ◌∷◌, Ok, Err, codes, false, refl, true}
use Rattle.csv.specs.Records.{field_at}
use Rattle.csv.proofs.OnLiterals.{csv_on_literals}
use Rattle.auction_terms.specs.AllFaults.{all_faults}
use Rattle.auction_terms.specs.FirstFault.{first_fault}
use Rattle.auction_input.specs.Auction.{Auction, parsed_auction}
use Rattle.auction_input.specs.Described.{Describes}
use Rattle.auction_input.specs.Input.{Input, unnamed}
use Rattle.auction_input.specs.declared.form_texts.AnotherForm.{AnotherForm}
use Rattle.auction_input.specs.declared.part_kind.PartKind.TheVariants as part
use Rattle.auction_input.specs.declared.refusal.Refusal.{Refusal}
use Rattle.auction_input.specs.declared.refusal.Refusal.TheVariants as refusal
use Rattle.auction_input.specs.declared.request.Request.{Request}
use Rattle.auction_input.specs.declared.request.Request.TheVariants.{Compile, Text}
use Rattle.auction_input.proofs.DescribedFacts.{described-auction}

-- what is refused describes nothing
describes-none : (asked : Request) (input : Input) (r : Refusal) → parsed_auction asked input ≡ Err r → (auction : Auction) → Describes asked input auction → ⊥
describes-none asked input r refused auction describes = (let read = (described-auction asked input auction).1 describes in cc)

-- rules with a form of Beta in one text, and another form of Beta in a second one
abbrev two_forms : Input
two_forms = record {
  texts = unnamed (codes "%rules\nrules,1,1,,\ncategory,A,2,10,1\ncategory,B,1,5,1\nbidder,Alpha,9,2,\nbidder,Beta,9,1,\n%form\nBeta,A,B\n12,0,1\n") ∷
      unnamed (codes "%form\nBeta,A,B\n30,2,0\n") ∷ [];
  last_wins = true;
}

-- an auction in which the last form counts
abbrev last_form : Auction
last_form = record {
  rules = record {
    step = 1;
    categories = record { name = codes "A"; supply = 2; reserve = 10; points = 1; value = 0 } ∷ record
        { name = codes "B"; supply = 1; reserve = 5; points = 1; value = 0 } ∷ [];
    bidders = record { name = codes "Alpha"; eligibility = 9; sessions = 2 } ∷ record { name = codes "Beta"; eligibility = 9; sessions = 1 } ∷ [];
    pools = [];
  };
  sale = record {
    names = codes "Alpha" ∷ codes "Beta" ∷ [];
    lots = record { supply = 2 ∷ 1 ∷ []; values = 0 ∷ 0 ∷ []; pools = [] };
    book = [] ∷ (record { «package» = 2 ∷ 0 ∷ []; amount = 30 } ∷ []) ∷ [];
  };
  form_bidders = 2 ∷ 2 ∷ [];
  groups = [];
  solutions = [];
  certificates = [];
  uniques = [];
  ties = [];
  prices = [];
  covers = [];
  rule_texts = [];
}

abbrev another : AnotherForm
another = record { form = 2; bidder = codes "Beta"; first_text = 0 }

read : parsed_auction Text two_forms ≡ Ok last_form
unfolding all_faults csv_on_literals field_at first_fault
read = refl

described : Describes Text two_forms last_form
described = (described-auction Text two_forms last_form).0 read

-- unless the last form counts in whichever text it is, the two texts describe nothing
refused : parsed_auction Text (record two_forms { last_wins = false }) ≡ Err (refusal.AnotherForm another)
unfolding all_faults csv_on_literals field_at first_fault
refused = refl

undescribed : (auction : Auction) → Describes Text (record two_forms { last_wins = false }) auction → ⊥
undescribed = describes-none Text (record two_forms { last_wins = false }) (refusal.AnotherForm another) refused

-- nor do they without groups for a command that takes them
no_groups : parsed_auction (Compile 1) two_forms ≡ Err (refusal.PartCount part.Groups)
unfolding first_fault
no_groups = refl

undescribed_groups : (auction : Auction) → Describes (Compile 1) two_forms auction → ⊥
undescribed_groups = describes-none (Compile 1) two_forms (refusal.PartCount part.Groups) no_groups
