-- Texts of prices, and of the rule. A line of prices gives a winner a price. The first line of the rule gives two scales and a push, and each
-- other one gives a group, by its number, or a winner two weights. Blank lines and lines that begin with # give nothing.
use Rattle.std.specs.Prelude.{◌+◌, ◌*◌, ◌≤◌, ◌==◌, ◌++◌, Bool, false, ℕ, List, [], ◌∷◌, Option, None, Some, Result}
use Rattle.std.specs.Prelude.{Ok, Err, find, fold, map, nat_le, position, slice_index, if◌then◌else◌}
use Rattle.std.specs.Option.{option_map, option_map_or}
use Rattle.std.specs.List.{list_any, range_with_len}
use Rattle.std.specs.Str.{bytes_eq}
use Rattle.auction_terms.specs.FirstFault.{first_failed}
use Rattle.auction_terms.specs.Fractions.{fraction_of, in_parts, lcm}
use Rattle.auction_terms.specs.Lines.{lines_of}
use Rattle.auction_terms.specs.Numbers.{number_of}
use Rattle.auction_terms.specs.RulesText.{is_between}
use Rattle.auction_terms.specs.Stages.{and_then, unless}
use Rattle.auction_terms.specs.declared.bids.Choice.{Choice}
use Rattle.auction_terms.specs.declared.fractions.Fraction.{Fraction}
use Rattle.auction_terms.specs.declared.limits.TheConstants.{GREATEST_AMOUNT, MOST_PARTS}
use Rattle.auction_terms.specs.declared.rules.Bidder.{Bidder}
use Rattle.auction_terms.specs.LineFields.{fields}
use Rattle.auction_input.specs.declared.price_reading.GivenPrice.{GivenPrice}
use Rattle.auction_input.specs.declared.rule_weights.Aim.{Aim}
use Rattle.auction_input.specs.declared.rule_weights.Aim.TheVariants as aim
use Rattle.auction_input.specs.declared.rule_weights.GivenWeights.{GivenWeights}
use Rattle.auction_input.specs.declared.rule_weights.RuleLine.{RuleLine}
use Rattle.auction_input.specs.declared.rule_weights.RuleLine.TheVariants as rule
use Rattle.auction_input.specs.declared.rule_weights.Subject.{Subject}
use Rattle.auction_input.specs.declared.rule_weights.Subject.TheVariants as subject
use Rattle.auction_input.specs.declared.price_fault.PriceFault.{PriceFault}
use Rattle.auction_input.specs.declared.price_fault.PriceFault.TheVariants as fault

-- whom lines may name: the bidders that win, of all bidders, and the groups up to this number
pub record Known : Type 0 where
  pub bidders : List Bidder
  pub winners : List Choice
  pub groups : ℕ

-- the fields of a line; none if it begins with #
abbrev pub given_fields : List ℕ → List (List ℕ)
given_fields line = if slice_index line 0 == 35 then [] else fields line

-- the number, from 1, of the bidder of a name
abbrev pub bidder_named : List Bidder → List ℕ → Option ℕ
bidder_named bidders name = option_map (λ place. place + 1) (position (λ bidder. bytes_eq bidder.name name) bidders)

-- the bidder of this number, which is to win
abbrev pub parsed_winner : Known → ℕ → Option ℕ → Result ℕ PriceFault
parsed_winner known place None = Err (fault.UnknownName place)
parsed_winner known place (Some b) = if list_any (λ c. c.bidder == b) known.winners then Ok b else Err (fault.NotWinner place)

-- the winner of a name
abbrev pub winner_named : Known → ℕ → List ℕ → Result ℕ PriceFault
winner_named known place name = parsed_winner known place (bidder_named known.bidders name)

-- ---- prices

-- the least number of parts of a pound in which these prices are whole
abbrev pub common_parts : List GivenPrice → ℕ
common_parts given = fold (λ parts (g : GivenPrice). lcm parts g.price.denominator) 1 given

-- a price that is at most the greatest amount, and isn't divided by 0
pub record IsWithinAmounts (g : GivenPrice) : Type 0 where
  pub some : 1 ≤ g.price.denominator
  pub most : g.price.numerator ≤ GREATEST_AMOUNT * g.price.denominator

-- the price of a winner, if it has one
abbrev pub price_given : List GivenPrice → ℕ → Option GivenPrice
price_given given b = find (λ g. g.bidder == b) given

-- whether a bidder is given a price already
abbrev pub has_price : List GivenPrice → ℕ → Bool
has_price given b = list_any (λ g. g.bidder == b) given

-- the price that a line at this place gives a winner, after lines whose prices are whole in these parts
abbrev pub checked_price : ℕ → ℕ → ℕ → Option Fraction → Result GivenPrice PriceFault
checked_price parts place b None = Err (fault.NumberText place)
checked_price parts place b (Some f) =
    unless (first_failed (
    (is_between 1 MOST_PARTS f.denominator, fault.DenominatorRange place) ∷
    (nat_le f.numerator (GREATEST_AMOUNT * f.denominator), fault.PriceRange place) ∷
    (nat_le (lcm parts f.denominator) MOST_PARTS, fault.TooManyParts place) ∷ []))
    (Ok (record { bidder = b; price = f; place = place }))

-- the price that a line at this place gives a bidder, after lines that gave these; a fault if it has one already
abbrev pub parsed_price : List GivenPrice → ℕ → List ℕ → ℕ → Result GivenPrice PriceFault
parsed_price before place text b =
    if has_price before b then Err (fault.RepeatedName place) else checked_price (common_parts before) place b (fraction_of text)

-- the price in a line of these fields, if there is one
abbrev pub price_in_fields : Known → List GivenPrice → ℕ → List (List ℕ) → Result (Option GivenPrice) PriceFault
price_in_fields known before place [] = Ok None
price_in_fields known before place (name ∷ text ∷ []) =
    and_then (winner_named known place name) (λ b. and_then (parsed_price before place text b) (λ g. Ok (Some g)))
price_in_fields known before place more = Err (fault.Fields place)

-- ---- the rule

-- whom a line of weights names: a group by its number, or a winner by its name, which begins with a letter
abbrev pub parsed_subject : Known → ℕ → List ℕ → Result Subject PriceFault
parsed_subject known place name =
    elim (number_of name) [
      | Some k ↦ if is_between 1 known.groups k then Ok (subject.Group k) else Err (fault.UnknownName place)
      | None ↦ and_then (winner_named known place name) (λ b. Ok (subject.Bidder b))
    ]

-- whether two subjects of weights are the same group, or the same winner
abbrev pub same_subject : Subject → Subject → Bool
same_subject (subject.Group k) (subject.Group l) = k == l
same_subject (subject.Bidder b) (subject.Bidder c) = b == c
same_subject one other = false

-- whether a line gives weights to it
abbrev pub is_of : Subject → RuleLine → Bool
is_of s (rule.Scaled scales) = false
is_of s (rule.Weighted w) = same_subject w.subject s

-- the number in a field of the line at this place
abbrev pub number_in_field : ℕ → List ℕ → Result ℕ PriceFault
number_in_field place text = elim (number_of text) [ Some n ↦ Ok n | None ↦ Err (fault.NumberText place) ]

-- the first line: the scale of the weights of least, that of the weights of nearest, and the push
abbrev pub parsed_scales : ℕ → List ℕ → List ℕ → List ℕ → Result RuleLine PriceFault
parsed_scales place least nearest push =
    and_then (number_in_field place least) (λ l.
    and_then (number_in_field place nearest) (λ n.
    and_then (number_in_field place push) (λ p. Ok (rule.Scaled (record { least = l; nearest = n; push = p })))))

-- a further line: the two weights of what it names, after lines that gave these
abbrev pub parsed_weights : Known → List RuleLine → ℕ → List ℕ → List ℕ → List ℕ → Result RuleLine PriceFault
parsed_weights known before place name least nearest =
    and_then (parsed_subject known place name) (λ s.
    if list_any (is_of s) before then Err (fault.RepeatedName place)
    else and_then (number_in_field place least) (λ l.
    and_then (number_in_field place nearest) (λ n. Ok (rule.Weighted (record { subject = s; least = l; nearest = n })))))

-- what a line of these fields gives
abbrev pub rule_in_fields : Known → List RuleLine → ℕ → List (List ℕ) → Result (Option RuleLine) PriceFault
rule_in_fields known before place [] = Ok None
rule_in_fields known [] place (one ∷ two ∷ three ∷ []) = and_then (parsed_scales place one two three) (λ line. Ok (Some line))
rule_in_fields known before place (one ∷ two ∷ three ∷ []) = and_then (parsed_weights known before place one two three) (λ line. Ok (Some line))
rule_in_fields known before place more = Err (fault.Fields place)

-- ---- a text

-- what is given so far, and what the next line gives
abbrev pub with_given : {X : Type 0} → List X → Option X → List X
with_given given None = given
with_given given (Some g) = given ++ g ∷ []

-- what these lines give, of which the first is at this place, after lines that gave these; or the first fault
abbrev pub parsed_lines : {X : Type 0} → (List X → ℕ → List (List ℕ) → Result (Option X) PriceFault) → List X → ℕ → List (List ℕ) → Result (List X) PriceFault
parsed_lines in_fields before place [] = Ok before
parsed_lines in_fields before place (line ∷ more) =
    and_then (in_fields before place (given_fields line)) (λ g. parsed_lines in_fields (with_given before g) (place + 1) more)

-- the prices that a text gives to winners, or its first fault
abbrev pub parsed_price_text : Known → List ℕ → Result (List GivenPrice) PriceFault
parsed_price_text known text = parsed_lines (price_in_fields known) [] 1 (lines_of text)

-- what each line of a text of the rule gives, or the first fault
abbrev pub parsed_rule_lines : Known → List ℕ → Result (List RuleLine) PriceFault
parsed_rule_lines known text = parsed_lines (rule_in_fields known) [] 1 (lines_of text)

-- ---- what is given

-- the prices in these parts of a pound, bidder 1's first; one that is given none has 0
abbrev pub prices_in_parts : ℕ → List GivenPrice → ℕ → List ℕ
prices_in_parts parts given count = map (λ b. option_map_or (λ g. in_parts parts g.price) (price_given given b) 0) (range_with_len 1 count)

-- the weights of a line
abbrev pub weights_in : RuleLine → Option GivenWeights
weights_in (rule.Scaled scales) = None
weights_in (rule.Weighted w) = Some w

-- the weight of a line for an aim
abbrev pub weight_for : Aim → GivenWeights → ℕ
weight_for aim.Least w = w.least
weight_for aim.Nearest w = w.nearest

-- the weight that is given to it, and 0 if none is
abbrev pub weight_given : Aim → List RuleLine → Subject → ℕ
weight_given a given s = option_map_or (λ line. option_map_or (weight_for a) (weights_in line) 0) (find (is_of s) given) 0

-- the weights for an aim that are given to the groups up to this one; 0 for each that is given none
abbrev pub weights_of_groups : Aim → List RuleLine → ℕ → List ℕ
weights_of_groups a given count = map (λ k. weight_given a given (subject.Group k)) (range_with_len 1 count)

-- the weights for an aim that are given to the bidders up to this one; 0 for each that is given none
abbrev pub weights_of_bidders : Aim → List RuleLine → ℕ → List ℕ
weights_of_bidders a given count = map (λ b. weight_given a given (subject.Bidder b)) (range_with_len 1 count)
