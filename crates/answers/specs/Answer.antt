-- The program as one function: what goes to standard output, or the first refusal.
use Rattle.std.specs.Prelude.{◌-◌, ◌++◌, ℕ, List, [], Result, Ok, Err, if◌then◌else◌, length, nat_le, slice_index_or}
use Rattle.auction_input.specs.Input.{text_bytes, Input}
use Rattle.auction_input.specs.Auction.{Auction, parsed_auction}
use Rattle.answers.specs.Programs.{program_for}
use Rattle.auction_input.specs.LastForms.{parsed_forms}
use Rattle.auction_input.specs.ParsedParts.{only_text}
use Rattle.auction_input.specs.PartCounts.{wanted}
use Rattle.auction_input.specs.declared.refusal.Refusal.TheVariants as refusal
use Rattle.auction_input.specs.declared.refusal.Refusal.{Refusal}
use Rattle.auction_input.specs.declared.request.Request.TheVariants.{Check, Compile, Explain, Forms, Map, Objects, Report, Verify, VerifyWithForms}
use Rattle.auction_input.specs.declared.request.Objects.TheVariants as objects
use Rattle.auction_input.specs.declared.request.Request.{Request}
use Rattle.auction_terms.specs.Stages.{and_then}
use Rattle.mps_text.specs.Text.{text}
use Rattle.presolve.specs.Lines.{left_out_lines}
use Rattle.presolve.specs.Reasons.{reasons_of}
use Rattle.outcome.specs.Report.{allocation_text, in_turn, report_text}
use Rattle.outcome.specs.Outcome.{Outcome, outcome_report}
use Rattle.award_objects.specs.Objects.{objects_shown, objects_unshown}
use Rattle.answers.specs.Certified.{certified}
use Rattle.answers.specs.Claimed.{parsed_claims}
use Rattle.answers.specs.Pricing.{parsed_pricing}
use Rattle.answers.specs.Forms.{forms_objects, forms_text}
use Rattle.answers.specs.GroupTexts.{program_text}
use Rattle.answers.specs.Sizes.{parsed_program, sizes_text}
use Rattle.answers.specs.SolutionWinners.{winners_by, winners_of_groups}

-- what the texts of an auction show, where certificates show that no allocation has a higher total: what the solutions win, what is claimed of
-- other awards, and what the winners pay
abbrev pub shown_outcome : Auction → Result Outcome Refusal
shown_outcome auction =
    and_then (and_then (winners_of_groups auction) (certified auction)) (λ won.
    and_then (parsed_claims auction (slice_index_or won 0 [])) (λ others.
    and_then (parsed_pricing auction won) (λ pricing.
    Ok (record { won = won; pricing = pricing; others = others }))))

-- what is shown, as objects
abbrev pub shown_objects : Auction → Result (List ℕ) Refusal
shown_objects auction = and_then (shown_outcome auction) (λ o. Ok (objects_shown auction.rules auction.sale auction.groups o))

-- what the solutions win, as objects
abbrev pub reported_objects : Auction → Result (List ℕ) Refusal
reported_objects auction = and_then (winners_of_groups auction) (λ won. Ok (objects_unshown auction.rules auction.sale auction.groups won))

-- what a command writes of an auction; where none is named, it is `text`
abbrev pub output_of : Request → Auction → Result (List ℕ) Refusal
-- the line and the program of each group
output_of (Compile workers) auction = Ok (in_turn (program_text auction.sale) 1 auction.groups)
-- what the one solution wins without group k
output_of (Map k) auction =
    if nat_le k (length auction.groups) then
    and_then (winners_by (program_for auction.sale (slice_index_or auction.groups (k - 1) [])) 1 (only_text auction.solutions)) (λ won.
    Ok (allocation_text auction.sale won))
    else Err (refusal.NoGroup k)
-- what the solutions win, group by group, and what each group costs the others
output_of (Report workers) auction =
    and_then (winners_of_groups auction) (λ won. Ok (report_text auction.sale auction.groups won))
-- what is shown: what the solutions win and what each group costs the others, then what the winners pay and what is known of other awards
output_of (Verify workers) auction = and_then (shown_outcome auction) (λ o. Ok (outcome_report auction.sale auction.groups o))
-- where nothing is wrong `explain` writes nothing, unless it is asked which bids no program has, and why; it refuses an auction that hasn't
-- got what the command that is named wants
output_of (Explain options) auction =
    and_then (wanted options.target auction) (λ taken. Ok (if options.bids then left_out_lines options.format auction.rules auction.form_bidders
    (reasons_of auction.sale.lots auction.sale.book) else []))
-- the program with nobody left out
output_of asked auction = Ok (text (program_for auction.sale []))

-- `check` writes the sizes of the program that its one text is, `forms` the digests of the rules and of each bidder's last form, whatever
-- else is there, and `verify --forms` these and then what `verify` writes; so do the commands that print objects; the others answer by the auction
-- that their input describes
abbrev pub answer : Request → Input → Result (List ℕ) Refusal
answer Check input = and_then (parsed_program (only_text (text_bytes input))) (λ program. Ok (sizes_text program))
answer Forms input = and_then (parsed_forms input) (λ read. Ok (forms_text read))
answer (VerifyWithForms workers) input =
    and_then (and_then (parsed_auction (Verify workers) input) (output_of (Verify workers))) (λ report.
    and_then (parsed_forms input) (λ read. Ok (forms_text read ++ report)))
answer (Objects objects.Forms) input = and_then (parsed_forms input) (λ read. Ok (forms_objects read))
answer (Objects (objects.Report workers)) input =
    and_then (and_then (parsed_auction (Report workers) input) reported_objects) (λ said.
    and_then (parsed_forms input) (λ read. Ok (forms_objects read ++ said)))
answer (Objects (objects.Verify workers)) input =
    and_then (and_then (parsed_auction (Verify workers) input) shown_objects) (λ said.
    and_then (parsed_forms input) (λ read. Ok (forms_objects read ++ said)))
answer asked input = and_then (parsed_auction asked input) (output_of asked)
