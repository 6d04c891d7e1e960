-- What stands at the front of small texts.
use Rattle.std.proofs.Common.{◌≡◌, ◌++◌, ℕ, List, [], ◌∷◌, Some, None, refl}
use Rattle.std.specs.Prelude.{codes}
use Rattle.auction_terms.specs.Terms.{Terms}
use Rattle.desk_book.specs.Calls.{Submit, Withdraw, Show, Close, Whole, Short, Wrong, call_at}
use Rattle.desk_book.specs.declared.calls.Who.{Who}

-- rules with two bidders, of two sessions and of one
abbrev rules : Terms
rules = record {
  step = 1;
  categories = [];
  bidders = record { name = codes "Ada"; eligibility = 9; sessions = 2 } ∷ record { name = codes "Bo"; eligibility = 9; sessions = 1 } ∷ [];
  pools = [];
}

-- the second session of the first bidder, at the time 70
abbrev ada : Who
ada = record { bidder = 1; session = 2; time = 70 }

abbrev salt : List ℕ
salt = codes "00112233445566778899aabbccddeeff00112233445566778899aabbccddeeff"

abbrev commit : List ℕ
commit = codes "ffeeddccbbaa99887766554433221100ffeeddccbbaa99887766554433221100"

record CallsOfEachKind : Type 0 where
  submitted : call_at rules (codes "%submit Ada 2 70 - " ++ salt ++ codes " " ++ commit ++ codes " 3 2\nab\nSE%show")
      ≡ Whole (Submit ada None salt commit (codes "ab\n") (codes "SE")) 158
  over_another : call_at rules (codes "%submit Ada 2 70 1 " ++ salt ++ codes " " ++ commit ++ codes " 0 1\nS")
      ≡ Whole (Submit ada (Some 1) salt commit [] (codes "S")) 154
  withdrawn : call_at rules (codes "%withdraw Ada 2 70 1\n%close 71\n") ≡ Whole (Withdraw ada 1) 21
  shown : call_at rules (codes "%show Bo 1 8\n") ≡ Whole (Show (record { bidder = 2; session = 1; time = 8 })) 13
  closed : call_at rules (codes "%close 71\n") ≡ Whole (Close 71) 10

calls_of_each_kind : CallsOfEachKind
unfolding call_at
calls_of_each_kind = record { submitted = refl; over_another = refl; withdrawn = refl; shown = refl; closed = refl }

record BytesThatAreNoCall : Type 0 where
  nothing : call_at rules [] ≡ Short
  no_line_end : call_at rules (codes "%close 71") ≡ Short
  sealed_form_cut : call_at rules (codes "%submit Ada 2 70 - " ++ salt ++ codes " " ++ commit ++ codes " 3 2\nab\nS") ≡ Short
  empty_line : call_at rules (codes "\n%close 71\n") ≡ Wrong
  unknown_bidder : call_at rules (codes "%show Cy 1 8\n") ≡ Wrong
  session_of_another : call_at rules (codes "%show Bo 2 8\n") ≡ Wrong
  two_blanks : call_at rules (codes "%show  Bo 1 8\n") ≡ Wrong
  field_too_many : call_at rules (codes "%close 71 \n") ≡ Wrong
  field_too_few : call_at rules (codes "%withdraw Ada 2 70\n") ≡ Wrong
  over_none : call_at rules (codes "%withdraw Ada 2 70 -\n") ≡ Wrong
  change_of_ten_digits : call_at rules (codes "%withdraw Ada 2 70 1000000000\n") ≡ Wrong
  capital_digit : call_at rules (codes "%submit Ada 2 70 - A0112233445566778899aabbccddeeff00112233445566778899aabbccddeeff " ++ commit ++ codes " 3 2\nab\nSE") ≡ Wrong

bytes_that_are_no_call : BytesThatAreNoCall
unfolding call_at
bytes_that_are_no_call = record {
  nothing = refl;
  no_line_end = refl;
  sealed_form_cut = refl;
  empty_line = refl;
  unknown_bidder = refl;
  session_of_another = refl;
  two_blanks = refl;
  field_too_many = refl;
  field_too_few = refl;
  over_none = refl;
  change_of_ten_digits = refl;
  capital_digit = refl;
}
