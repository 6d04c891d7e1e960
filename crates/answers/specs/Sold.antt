-- What comes after the programs of an answer: the auction of a closed round, and texts that are faithful to it.
use Rattle.std.specs.Prelude.{⊤, ℕ, List}
use Rattle.auction_input.specs.Input.{Input}
use Rattle.auction_input.specs.Auction.{Auction}
use Rattle.auction_input.specs.Sold.{IsSold}
use Rattle.auction_input.specs.declared.request.Request.TheVariants.{Check, Forms, Objects, Report, Verify, VerifyWithForms}
use Rattle.auction_input.specs.declared.request.Objects.TheVariants as objects
use Rattle.auction_input.specs.declared.request.Request.{Request}
use Rattle.answers.specs.FaithfulAnswers.{IsFaithfulToSale}

-- an input describes an auction to a command; the text of its program without any group is faithful to it
abbrev pub HasSoldTo : Request → Input → Type 0
HasSoldTo asked input = (auction : Auction) × IsSold asked input auction × ((group : List ℕ) → IsFaithfulToSale auction.sale group)

-- the auction that a request reads is so
abbrev pub HasSold : Request → Input → Type 0
HasSold Check input = ⊤
HasSold Forms input = ⊤
HasSold (VerifyWithForms workers) input = HasSoldTo (Verify workers) input
HasSold (Objects objects.Forms) input = ⊤
HasSold (Objects (objects.Report workers)) input = HasSoldTo (Report workers) input
HasSold (Objects (objects.Verify workers)) input = HasSoldTo (Verify workers) input
HasSold asked input = HasSoldTo asked input
