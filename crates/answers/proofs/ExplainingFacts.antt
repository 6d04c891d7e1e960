-- What `explain` leaves.
use Rattle.std.specs.Prelude.{if◌then◌else◌}
use Rattle.std.proofs.Common.{◌≡◌, ◌⊎◌, ◌∙◌, ℕ, Bool, true, false, List, [], Option, None, Some, Result, Ok, Err, ap}
use Rattle.std.proofs.Common.{refl, subst, sym, ◌↔◌, IsErr, IsOk, IsTrue, true≢false}
use Rattle.auction_input.specs.Input.{Input}
use Rattle.answers.specs.Exact.{IsUnwritten, Writes}
use Rattle.answers.specs.Answer.{answer, output_of}
use Rattle.byte_sinks.specs.Sinks.{GoesWhole, Outlet}
use Rattle.answers.specs.Runs.{AsksAnswer}
use Rattle.auction_input.specs.Auction.{Auction, parsed_auction}
use Rattle.auction_input.specs.declared.refusal.Refusal.{Refusal}
use Rattle.auction_input.specs.PartCounts.{numbers_of, refused_unless, parsed_taken, wanted, wants, with_wanted}
use Rattle.auction_terms.specs.FirstFault.{first_failed}
use Rattle.auction_terms.specs.Stages.{and_then, unless}
use Rattle.input_faults.proofs.ExplainFacts.{nothing-explained}
use Rattle.input_faults.specs.Explained.{IsCutShort}
use Rattle.input_faults.specs.FaultLines.{explanation}
use Rattle.presolve.specs.Lines.{left_out_lines}
use Rattle.presolve.specs.Reasons.{reasons_of}
use Rattle.auction_input.specs.declared.request.ExplainOptions.{ExplainOptions}
use Rattle.auction_input.specs.declared.request.Request.{Request}
use Rattle.auction_input.specs.declared.request.Request.TheVariants.{Explain}
use Rattle.auction_input.specs.declared.request.Target.{Target}

-- the lines of bids, where they are asked for
abbrev lines_of : ExplainOptions → Auction → Result (List ℕ) Refusal
lines_of options auction =
    Ok (if options.bids then left_out_lines options.format auction.rules auction.form_bidders (reasons_of auction.sale.lots auction.sale.book) else [])

no-lines : (options : ExplainOptions) (auction : Auction) → options.bids ≡ false → lines_of options auction ≡ Ok []
no-lines options auction off = ap (λ (bids : Bool). Ok (if bids then left_out_lines options.format auction.rules auction.form_bidders
    (reasons_of auction.sale.lots auction.sale.book) else [])) off

-- where an auction is parsed that has what is wanted, the answer is there
found-answer : (options : ExplainOptions) (command : Option Target) (parsed : Result Auction Refusal) (auction : Auction) → options.bids ≡ false
    → with_wanted command parsed ≡ Ok auction
    → and_then parsed (λ (read : Auction). and_then (wanted command read) (λ taken. lines_of options read)) ≡ Ok []
found-answer options None (Ok found) auction off is = no-lines options found off
found-answer options (Some command) (Ok found) auction off is = by (first_failed (refused_unless (wants (Some command) (numbers_of found)))) is
  where
    by : (o : Option Refusal) → unless o (Ok found) ≡ Ok auction → and_then (unless o (Ok found)) (λ taken. lines_of options found) ≡ Ok []
    by None e = no-lines options found off
    by (Some r) e = cc
found-answer options None (Err r) auction off is = cc
found-answer options (Some command) (Err r) auction off is = cc

-- where nothing is wrong, and bids aren't asked for, nothing is written
nothing-written : (options : ExplainOptions) (text : Input) (parsed : Result Auction Refusal) (before after : Outlet) → options.bids ≡ false
    → parsed_taken (Explain options) text ≡ parsed → (IsErr parsed → IsTrue false)
    → GoesWhole before after (explanation (Explain options) text) → Writes (answer (Explain options) text) before after
nothing-written options text (Ok auction) before after off is sound written = (
  [],
  found-answer options options.target (parsed_auction (Explain options) text) auction off is,
  subst (GoesWhole before after) (nothing-explained (Explain options) text auction is) written,
)
nothing-written options text (Err r) before after off is sound written = (let never = sound refl in cc)

pub unasked : (options : ExplainOptions) (faulty : Bool) (text : Input) (before after : Outlet) → options.bids ≡ false → faulty ≡ false
    → IsTrue faulty ↔ IsErr (parsed_taken (Explain options) text)
    → GoesWhole before after (explanation (Explain options) text) → Writes (answer (Explain options) text) before after
unasked options faulty text before after off sound both written =
    nothing-written options text (parsed_taken (Explain options) text) before after off refl (λ wrong. sym sound ∙ both.1 wrong) written

-- where no fault is found, an auction is parsed
no-fault : {A E : Type 0} (parsed : Result A E) → (IsErr parsed → ⊥) → IsOk parsed
no-fault (Ok x) none = refl
no-fault (Err r) none = absurd (none refl)

pub asks-bids : (options : ExplainOptions) (faulty : Bool) (text : Input) → options.bids ≡ true → faulty ≡ false
    → IsTrue faulty ↔ IsErr (parsed_taken (Explain options) text) → AsksAnswer (Explain options) text
asks-bids options faulty text asked sound both =
    (asked, no-fault (parsed_taken (Explain options) text) (λ wrong. true≢false (sym (both.1 wrong) ∙ sound)))

-- where nothing was put before
pub unreported : (asked : Request) (text : Input) (explained before after : Outlet) (r : Refusal) → explained ≡ before
    → IsUnwritten asked text explained after r → IsUnwritten asked text before after r
unreported asked text explained before after r same unwritten = subst (λ (s : Outlet). IsUnwritten asked text s after r) same unwritten

-- why a text isn't explained
abbrev pub IsTextUnexplained : ExplainOptions → Input → Outlet → Outlet → Refusal → Type 0
IsTextUnexplained options text before after r =
    IsCutShort (explanation (Explain options) text) before after r
    ⊎ (AsksAnswer (Explain options) text × IsUnwritten (Explain options) text before after r)

-- ---- what is written of an auction

-- of one that has what is wanted, as where nothing is
pub bids-as : (options : ExplainOptions) (auction : Auction) → options.bids ≡ true → wanted options.target auction ≡ Ok auction
    → output_of (Explain options) auction ≡ output_of (Explain (record { bids = true; target = None; format = options.format })) auction
bids-as options auction asked has =
    ap (λ (parsed : Result Auction Refusal). and_then parsed (λ taken. lines_of options auction)) has
    ∙ ap (λ (b : Bool). output_of (Explain (record { bids = b; target = None; format = options.format })) auction) asked

-- of one that hasn't
pub bids-refused : (options : ExplainOptions) (auction : Auction) (r : Refusal) → wanted options.target auction ≡ Err r
    → output_of (Explain options) auction ≡ Err r
bids-refused options auction r unmet = ap (λ (parsed : Result Auction Refusal). and_then parsed (λ taken. lines_of options auction)) unmet

-- where bids aren't asked for
pub as-unasked : (options : ExplainOptions) (auction : Auction) → options.bids ≡ false → wanted options.target auction ≡ Ok auction
    → output_of (Explain options) auction ≡ Ok []
as-unasked options auction off has =
    ap (λ (parsed : Result Auction Refusal). and_then parsed (λ taken. lines_of options auction)) has ∙ no-lines options auction off
