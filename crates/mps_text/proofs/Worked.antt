-- The texts of a small auction, computed.
use Rattle.std.specs.Prelude.{◌≡◌, ℕ, Bool, true, false, ◌==◌, List, [], ◌∷◌, map, Ok, Some, None, codes, refl}
use Rattle.std.specs.Fmt.{digits}
use Rattle.auction_terms.specs.declared.bids.Bid.{Bid}
use Rattle.auction_terms.specs.Packages.{Lots}
use Rattle.auction_terms.specs.Allocations.{Book}
use Rattle.auction_terms.specs.inside.Keeping.{choice_of}
use Rattle.auction_terms.specs.Keeping.{kept_of}
use Rattle.program_rows.specs.Points.{broken_row}
use Rattle.program_rows.specs.Rows.{program_of}
use Rattle.program_rows.specs.Spelling.{column_bid}
use Rattle.program_rows.specs.Faithful.{back}
use Rattle.auction_terms.specs.LineFields.{fields}
use Rattle.program_rows.specs.MpsLines.{line_of}
use Rattle.program_rows.specs.MpsProgram.{program}
use Rattle.program_rows.specs.MpsFaults.{fault}
use Rattle.program_rows.specs.MpsMeaning.{meaning}
use Rattle.auction_terms.specs.Decimals.{number}
use Rattle.mps_text.specs.Text.{text}
use Rattle.mps_text.specs.FaithfulText.{presolved_text}

-- two lots of the first category, one of the second; a lot of the first that is left is worth so much
abbrev valued : ℕ → Lots
valued value = record { supply = 2 ∷ 1 ∷ []; values = value ∷ 0 ∷ []; pools = [] }

abbrev lots : Lots
lots = valued 0

-- a pool of both categories, of which two lots may be sold
abbrev pooled : Lots
pooled = record { supply = 2 ∷ 1 ∷ []; values = 0 ∷ 0 ∷ []; pools = record { cap = 2; weights = 1 ∷ 1 ∷ [] } ∷ [] }

abbrev bid : ℕ → ℕ → ℕ → Bid
bid amount a b = record { «package» = a ∷ b ∷ []; amount = amount }

abbrev alpha : List Bid
alpha = bid 30 1 0 ∷ bid 50 2 1 ∷ bid 28 1 1 ∷ []

abbrev beta : List Bid
beta = bid 20 1 0 ∷ bid 45 3 0 ∷ []

abbrev gamma : List Bid
gamma = bid 12 0 1 ∷ []

abbrev book : Book
book = alpha ∷ beta ∷ gamma ∷ []

abbrev nobody : ℕ → Bool
nobody b = false

-- only the third bidder has a form
one_form : presolved_text lots ([] ∷ [] ∷ gamma ∷ []) nobody
    ≡ codes
    "NAME wdp\nROWS\n N OBJ\n L B3\n L C1\n L C2\nCOLUMNS\n M1 'MARKER' 'INTORG'\n X3_1 OBJ -12\n X3_1 B3 1\n X3_1 C2 1\n M2 'MARKER' 'INTEND'\nRHS\n RHS B3 1\n RHS C1 2\n RHS C2 1\nBOUNDS\n UP BND X3_1 1\nENDATA\n"
unfolding text digits
one_form = refl

no_form : presolved_text lots [] nobody ≡ codes "NAME wdp\nROWS\n N OBJ\n L C1\n L C2\nCOLUMNS\nRHS\n RHS C1 2\n RHS C2 1\nENDATA\n"
unfolding text digits
no_form = refl

-- the first bidder's third bid is dominated by its first, and the second bidder's second asks too much
all_forms : presolved_text lots book nobody ≡ codes
    "NAME wdp\nROWS\n N OBJ\n L B1\n L B2\n L B3\n L C1\n L C2\nCOLUMNS\n M1 'MARKER' 'INTORG'\n X1_1 OBJ -30\n X1_1 B1 1\n X1_1 C1 1\n X1_2 OBJ -50\n X1_2 B1 1\n X1_2 C1 2\n X1_2 C2 1\n X2_1 OBJ -20\n X2_1 B2 1\n X2_1 C1 1\n X3_1 OBJ -12\n X3_1 B3 1\n X3_1 C2 1\n M2 'MARKER' 'INTEND'\nRHS\n RHS B1 1\n RHS B2 1\n RHS B3 1\n RHS C1 2\n RHS C2 1\nBOUNDS\n UP BND X1_1 1\n UP BND X1_2 1\n UP BND X2_1 1\n UP BND X3_1 1\nENDATA\n"
unfolding text digits
all_forms = refl

-- at 40 for a lot that is left only the third bidder pays, and the last column is fixed at 1
constant_column : presolved_text (valued 40) book nobody ≡ codes
    "NAME wdp\nROWS\n N OBJ\n L B3\n L C1\n L C2\nCOLUMNS\n M1 'MARKER' 'INTORG'\n X3_1 OBJ -12\n X3_1 B3 1\n X3_1 C2 1\n K OBJ -80\n M2 'MARKER' 'INTEND'\nRHS\n RHS B3 1\n RHS C1 2\n RHS C2 1\nBOUNDS\n UP BND X3_1 1\n FX BND K 1\nENDATA\n"
unfolding text digits
constant_column = refl

-- at 20 the second bidder's first bid pays nothing more, and its cost of 0 is written
no_cost : presolved_text (valued 20) book nobody ≡ codes
    "NAME wdp\nROWS\n N OBJ\n L B1\n L B2\n L B3\n L C1\n L C2\nCOLUMNS\n M1 'MARKER' 'INTORG'\n X1_1 OBJ -10\n X1_1 B1 1\n X1_1 C1 1\n X2_1 OBJ 0\n X2_1 B2 1\n X2_1 C1 1\n X3_1 OBJ -12\n X3_1 B3 1\n X3_1 C2 1\n K OBJ -40\n M2 'MARKER' 'INTEND'\nRHS\n RHS B1 1\n RHS B2 1\n RHS B3 1\n RHS C1 2\n RHS C2 1\nBOUNDS\n UP BND X1_1 1\n UP BND X2_1 1\n UP BND X3_1 1\n FX BND K 1\nENDATA\n"
unfolding text digits
no_cost = refl

-- the row of a pool comes after those of the categories
row_of_a_pool : presolved_text pooled book nobody ≡ codes
    "NAME wdp\nROWS\n N OBJ\n L B1\n L B2\n L B3\n L C1\n L C2\n L P1\nCOLUMNS\n M1 'MARKER' 'INTORG'\n X1_1 OBJ -30\n X1_1 B1 1\n X1_1 C1 1\n X1_1 P1 1\n X2_1 OBJ -20\n X2_1 B2 1\n X2_1 C1 1\n X2_1 P1 1\n X3_1 OBJ -12\n X3_1 B3 1\n X3_1 C2 1\n X3_1 P1 1\n M2 'MARKER' 'INTEND'\nRHS\n RHS B1 1\n RHS B2 1\n RHS B3 1\n RHS C1 2\n RHS C2 1\n RHS P1 2\nBOUNDS\n UP BND X1_1 1\n UP BND X2_1 1\n UP BND X3_1 1\nENDATA\n"
unfolding text digits
row_of_a_pool = refl

-- without the second bidder
left_out : map choice_of (kept_of lots book (λ b. b == 2))
    ≡ record { bidder = 1; bid = 1 } ∷ record { bidder = 1; bid = 2 } ∷ record { bidder = 3; bid = 1 } ∷ []
left_out = refl

-- a least point: the first columns of each bidder
least : back (program_of lots (kept_of lots book nobody)).columns (true ∷ false ∷ true ∷ true ∷ [])
    ≡ record { bidder = 1; bid = 1 } ∷ record { bidder = 2; bid = 1 } ∷ record { bidder = 3; bid = 1 } ∷ []
unfolding column_bid digits
least = refl

-- two bids of one bidder break its row, the first one
two_bids : broken_row (program_of lots (kept_of lots book nobody)) (true ∷ true ∷ false ∷ false ∷ []) ≡ Some 0
two_bids = refl

-- texts are read again
all_forms_read : meaning (presolved_text lots book nobody) ≡ Ok (program_of lots (kept_of lots book nobody))
unfolding text digits meaning fault program fields line_of number
all_forms_read = refl

constant_column_read : meaning (presolved_text (valued 40) book nobody) ≡ Ok (program_of (valued 40) (kept_of (valued 40) book nobody))
unfolding text digits meaning fault program fields line_of number
constant_column_read = refl

-- bids of one form that are kept
abbrev kept_numbers : List Bid → List ℕ
kept_numbers form = map (λ o. o.number) (kept_of lots (form ∷ []) nobody)

-- a larger package for less, twice
smaller_for_more : kept_numbers (bid 30 1 0 ∷ bid 29 2 0 ∷ bid 28 2 1 ∷ []) ≡ 1 ∷ []
smaller_for_more = refl

-- a larger package for the same amount goes, for more it stays
larger_for_more : kept_numbers (bid 30 1 0 ∷ bid 30 1 1 ∷ bid 31 2 1 ∷ []) ≡ 1 ∷ 3 ∷ []
larger_for_more = refl

none_fits : kept_numbers (bid 50 3 0 ∷ bid 50 3 1 ∷ []) ≡ []
none_fits = refl

-- names with leading zeros, without a number, or beyond the limits name no bid
named : column_bid (codes "X256_4000") ≡ Some record { bidder = 256; bid = 4000 }
unfolding column_bid digits
named = refl

leading_zero : column_bid (codes "X01_1") ≡ None
unfolding column_bid digits
leading_zero = refl

no_number : column_bid (codes "X1_") ≡ None
unfolding column_bid digits
no_number = refl

too_far : column_bid (codes "X1_4001") ≡ None
unfolding column_bid digits
too_far = refl

zero_bid : column_bid (codes "X0_1") ≡ None
unfolding column_bid digits
zero_bid = refl

two_bars : column_bid (codes "X1_1_1") ≡ None
unfolding column_bid digits
two_bars = refl

constant : column_bid (codes "K") ≡ None
unfolding column_bid digits
constant = refl
