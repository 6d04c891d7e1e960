-- The sessions that rules name.
use Rattle.std.specs.Prelude.{ℕ, ◌-◌, ◌≤◌, length, map, slice_index}
use Rattle.auction_terms.specs.Terms.{Terms}

-- how many sessions a bidder has
abbrev pub session_limit : Terms → ℕ → ℕ
session_limit t bidder = slice_index (map (λ bidder. bidder.sessions) t.bidders) (bidder - 1)

-- a bidder's session, both counted from 1
pub record IsSessionOf (t : Terms) (bidder session : ℕ) : Type 0 where
  pub bidder_least : 1 ≤ bidder
  pub bidder_most : bidder ≤ length t.bidders
  pub session_least : 1 ≤ session
  pub session_most : session ≤ session_limit t bidder
