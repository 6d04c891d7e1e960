-- What a solution of the program without a group wins, or why it is refused.
use Rattle.std.specs.Prelude.{◌≡◌, ◌+◌, ℕ, List, [], Option, Result, Ok, IfOk, IfErr, IfSome, length, slice_index_or}
use Rattle.std.specs.List.{AllZip, range_with_len, zip}
use Rattle.auction_terms.specs.Stages.{each_in_turn}
use Rattle.auction_input.specs.Refused.{Refuses}
use Rattle.auction_input.specs.declared.refusal.Refusal.{Refusal}
use Rattle.auction_terms.specs.declared.bids.Choice.{Choice}
use Rattle.group_compiler.specs.Compiled.{Compiling}
use Rattle.bid_desk.specs.Sale.{Sale, sale_of}
use Rattle.answers.specs.Programs.{program_for}
use Rattle.answers.specs.SolutionWinners.{winners_by}

-- the winners without a group, by its solution
abbrev pub winners : Sale → ℕ → List ℕ × List ℕ → Result (List Choice) Refusal
winners sale number group_and_text = winners_by (program_for sale group_and_text.0) number group_and_text.1

-- the winners without the group at this place, from 0, by its solution
abbrev pub winners_at : Sale → List (List ℕ) → List (List ℕ) → ℕ → Result (List Choice) Refusal
winners_at sale groups texts n = winners sale (n + 1) (slice_index_or groups n [], slice_index_or texts n [])

-- the answer is what is parsed, or out of memory stands in its place
abbrev pub IsParsedAnswer : Result (List Choice) Refusal → Result (List Choice) Refusal → Type 0
IsParsedAnswer parsed answer = IfOk answer (λ a. parsed ≡ Ok a) × IfErr answer (Refuses parsed)

-- for each group either no winners were found, or those that its solution describes
abbrev pub AreMade : Compiling → List (List ℕ) → List (Option (List Choice)) → Type 0
AreMade c texts made = AllZip (λ n found. IfSome found (λ a. winners_at (sale_of c.book) c.groups texts n ≡ Ok a)) (range_with_len 0 (length c.groups)) made

-- what the solutions of all groups describe together
abbrev pub parsed_winners : Compiling → List (List ℕ) → Result (List (List Choice)) Refusal
parsed_winners c texts = each_in_turn (winners (sale_of c.book)) 1 (zip c.groups texts)
