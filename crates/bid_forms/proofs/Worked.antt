-- The definitions on small forms.
use Rattle.std.proofs.Common.{◌≡◌, refl, [], ◌∷◌, Ok, Err, codes}
use Rattle.csv.specs.Records.{field_at}
use Rattle.csv.proofs.OnLiterals.{csv_on_literals}
use Rattle.auction_terms.specs.AllFaults.{all_faults}
use Rattle.auction_terms.specs.Records.{records_of}
use Rattle.auction_terms.specs.Terms.{Terms}
use Rattle.bid_forms.specs.FormText.{form_of_records}
use Rattle.bid_forms.specs.declared.form_text.FormFault.TheVariants as fault

-- two lots of A at 10 each, one of B at 5, and one bidder of eligibility 9
abbrev rules : Terms
rules = record {
  step = 1;
  categories = record { name = codes "A"; supply = 2; reserve = 10; points = 1; value = 0 } ∷ record {
    name = codes "B";
    supply = 1;
    reserve =
        5;
    points = 1;
    value = 0;
  } ∷ [];
  bidders = record { name = codes "Alpha"; eligibility = 9; sessions = 2 } ∷ [];
  pools = [];
}

form : form_of_records rules (records_of (codes "Alpha,A,B\n0030,1,0\n"))
    ≡ Ok (record { bidder = 1; bids = (record { «package» = 1 ∷ 0 ∷ []; amount = 30 } ∷ []) })
unfolding csv_on_literals all_faults field_at
form = refl

unknown_bidder : form_of_records rules (records_of (codes "Delta,A,B\n")) ≡ Err (fault.UnknownBidder 1)
unfolding csv_on_literals all_faults field_at
unknown_bidder = refl

amount_first : form_of_records rules (records_of (codes "Alpha,A,B\n0,0,0\n")) ≡ Err (fault.AmountRange 2)
unfolding csv_on_literals all_faults field_at
amount_first = refl

below_reserve : form_of_records rules (records_of (codes "Alpha,A,B\n14,1,1\n")) ≡ Err (fault.BelowReserve 2)
unfolding csv_on_literals all_faults field_at
below_reserve = refl

repeated : form_of_records rules (records_of (codes "Alpha,A,B\n30,1,0\n31,1,0\n")) ≡ Err (fault.RepeatedPackage 3 1)
unfolding csv_on_literals all_faults field_at
repeated = refl
