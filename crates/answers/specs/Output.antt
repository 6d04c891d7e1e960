-- How a command ends without the output of an auction.
use Rattle.std.specs.Prelude.{◌≡◌, ◌⊎◌}
use Rattle.auction_input.specs.Auction.{Auction}
use Rattle.auction_input.specs.declared.refusal.Refusal.{Refusal}
use Rattle.auction_input.specs.declared.request.Request.TheVariants.{Verify}
use Rattle.auction_input.specs.declared.request.Request.{Request}
use Rattle.answers.specs.Answer.{output_of}
use Rattle.answers.specs.Exact.{Ends, IsBeyondSums}
use Rattle.byte_sinks.specs.Sinks.{Outlet}

-- `verify` alone adds up in 128 bits
abbrev pub IsBeyondLimit : Request → Auction → Refusal → Type 0
IsBeyondLimit (Verify workers) auction r = IsBeyondSums auction r
IsBeyondLimit asked auction r = ⊥

-- what is asked for of an auction is refused, or its output cut short; what the auction doesn't settle is the limit of sums
abbrev pub IsWithoutOutput : Request → Auction → Outlet → Outlet → Refusal → Type 0
IsWithoutOutput asked auction before after r =
    Ends (output_of asked auction) before after r ⊎ (IsBeyondLimit asked auction r × (after ≡ before))
